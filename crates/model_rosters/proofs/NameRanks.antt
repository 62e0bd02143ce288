-- Ranks of the names by how many names reach them.
use Rattle.std.proofs.Common.{◌≡◌, ◌==◌, ℕ, zero, suc, ◌<◌, ◌≤◌, false, List, [], ◌∷◌, length, get_or, Some, sym, ap, ◌∙◌, refl, arith, take, count_by, eq-eqb}
use Rattle.std.proofs.lemmas.List.{get_or-take, length-take-le}
use Rattle.std.proofs.lemmas.Bool.Decides.{nat_tests}
use Rattle.std.specs.Int.{bit_at}
use Rattle.model_rosters.specs.declared.grammar.Grammar.{Grammar}
use Rattle.model_rosters.specs.declared.grammar.Rule.{Rule}
use Rattle.model_rosters.specs.declared.grammar.Sym.TheVariants.{Name}
use Rattle.model_rosters.specs.Grammar.{rule_at}
use Rattle.model_rosters.specs.Ranks.{HasNames, reach_bit, ReachesOnlyLed, ReachesSteps, IsClosedBelow}
use Rattle.model_rosters.specs.UnitRules.{LeadsBy, Leads, once, again, IsFirstOnCycle, IsRanked}
use Rattle.model_rosters.proofs.Counts.{count_by-lt-length, count_by-lt-count_by}
use Rattle.model_rosters.proofs.StepRules.{led_from_within, left_within, right_within}

-- how many of the names reach the name
abbrev pub reached_by : List ℕ → ℕ → ℕ
reached_by rows x = count_by (λ row. bit_at row x == 1) rows

module _ (g : Grammar) (named : HasNames g) (reach : List ℕ) (long : length reach ≡ 33)
    (only : ReachesOnlyLed g reach) (steps : ReachesSteps g reach) (closed : IsClosedBelow 33 reach) (n : ℕ) (counted : n ≡ length g.names) where
  pub reaches_led : (x y : ℕ) → Leads g x y → reach_bit reach x y ≡ 1
  reaches_led x y (once r _ s) = steps.steps r x y s
  reaches_led x y (again r z _ rest s) =
      let small : z < 33 = omega (arith, led_from_within g named r z y s, named.few) in
      closed.through x z y small (reaches_led x z rest) (steps.steps r z y s)

  pub row_bit : (x y : ℕ) → x < length g.names → reach_bit (take n reach) x y ≡ reach_bit reach x y
  row_bit x y lt = ap (λ (m : ℕ). bit_at m y) (get_or-take n reach x 0 (omega arith))

  pub IsFirstOnCycle-found : (x : ℕ) → x < length g.names → reach_bit (take n reach) x x ≡ 1
      → ((y : ℕ) → y < x → reach_bit (take n reach) y y ≡ 1 → ⊥) → IsFirstOnCycle g x
  IsFirstOnCycle-found x lt reached first = record {
    within = only.led x x (sym (row_bit x x lt) ∙ reached);
    first = λ y less cycle. first y less (row_bit y y (omega arith) ∙ reaches_led y y cycle);
  }

  module _ (rank : ℕ → ℕ) (is : (x : ℕ) → x < 33 → rank x ≡ reached_by (take n reach) x)
      (none : (x : ℕ) → x < length g.names → reach_bit (take n reach) x x ≡ 1 → ⊥) where
    rows_length : length (take n reach) ≡ length g.names
    rows_length = length-take-le n reach (omega (arith, named.few)) ∙ counted

    fails_self : (x : ℕ) → x < length g.names → (bit_at (get_or (take n reach) x 0) x == 1) ≡ false
    fails_self x lt = grind (arith, nat_tests, none x lt)

    below : (x : ℕ) → x < length g.names → rank x < length g.names
    below x lt =
        let few : length g.names ≤ 33 = named.few in
        omega (
          arith,
          is x (omega arith),
          rows_length,
          count_by-lt-length (λ row. bit_at row x == 1) (take n reach) x 0 (omega (arith, rows_length)) (fails_self x lt),
        )

    rises : (r x y : ℕ) → LeadsBy g r x y → x < length g.names → y < length g.names → rank x < rank y
    rises r x y s x_in y_in =
        let few : length g.names ≤ 33 = named.few in
        let step : reach_bit reach x y ≡ 1 = steps.steps r x y s in
        omega (
          arith,
          is x (omega arith),
          is y (omega arith),
          count_by-lt-count_by (λ row. bit_at row x == 1) (λ row. bit_at row y == 1) (take n reach) 0 x
              (λ k lt passes.
              let k_in : k < length g.names = omega (arith, rows_length) in
              let to_x : reach_bit (take n reach) k x ≡ 1 = grind (arith, nat_tests) in
              let to_y : reach_bit (take n reach) k y ≡ 1 = row_bit k y k_in ∙ closed.through k x y (omega arith) (sym (row_bit k x k_in) ∙ to_x) step in
              eq-eqb _ _ to_y)
              (omega (arith, rows_length)) (fails_self x x_in) (eq-eqb _ _ (row_bit x y x_in ∙ step)),
        )

    pub IsRanked-by_reach : IsRanked g rank (length g.names)
    IsRanked-by_reach = record { below = λ r rule at. low r rule at; rises = λ r rule y at right. high r rule y at right }
      where
        low : (r : ℕ) (rule : Rule) → rule_at g r ≡ Some rule → rank rule.left < length g.names
        low zero rule at = absurd (cc at)
        low (suc k) rule at = below rule.left (left_within g named k rule at)

        high : (r : ℕ) (rule : Rule) (y : ℕ) → rule_at g r ≡ Some rule → rule.right ≡ Name y ∷ [] → rank rule.left < rank y
        high zero rule y at right = absurd (cc at)
        high (suc k) rule y at right =
            rises (suc k) rule.left y (record { rule = rule; at = at; left = refl; right = right }) (left_within g named k rule at) (right_within g named k rule y at right)
