-- The names that one rule leads to, rule by rule.
use Rattle.std.proofs.Common.{◌≡◌, ℕ, zero, suc, ◌+◌, ◌<◌, ◌≤◌, ◌⊎◌, inl, inr, List, [], ◌∷◌, length, slice_get, Some, sym, ap, subst, ◌∙◌, arith, All, replicate}
use Rattle.std.proofs.lemmas.Bool.{cases_eq}
use Rattle.std.proofs.lemmas.List.Elements.{All-head}
use Rattle.std.proofs.lemmas.Option.{slice_get_within, get_or_from_slice_get, same_Some}
use Rattle.model_rosters.specs.declared.grammar.Grammar.{Grammar}
use Rattle.model_rosters.specs.declared.grammar.Rule.{Rule}
use Rattle.model_rosters.specs.declared.grammar.Sym.{Sym}
use Rattle.model_rosters.specs.declared.grammar.Sym.TheVariants.{Name}
use Rattle.model_rosters.specs.Grammar.{rule_at}
use Rattle.model_rosters.specs.Sound.{IsRule, Exists}
use Rattle.model_rosters.specs.Ranks.{HasNames, reach_bit, ReachesOnlyLed, ReachesSteps}
use Rattle.model_rosters.specs.UnitRules.{LeadsBy, Leads, once, again, IsRanked}
use Rattle.model_rosters.proofs.ReachBits.{reach_bit-replicate}

module _ (g : Grammar) (named : HasNames g) where
  pub rule_within : (k : ℕ) (rule : Rule) → slice_get g.rules k ≡ Some rule → IsRule (length g.codes) (length g.names) rule
  rule_within k rule at =
      subst (λ (r : Rule). IsRule (length g.codes) (length g.names) r) (get_or_from_slice_get g.rules k rule rule at)
      (named.rules k rule (slice_get_within g.rules k rule at))

  pub left_within : (k : ℕ) (rule : Rule) → slice_get g.rules k ≡ Some rule → rule.left < length g.names
  left_within k rule at = (rule_within k rule at).left

  pub right_within : (k : ℕ) (rule : Rule) (y : ℕ) → slice_get g.rules k ≡ Some rule → rule.right ≡ Name y ∷ [] → y < length g.names
  right_within k rule y at right =
      All-head (Exists (length g.codes) (length g.names)) (Name y) []
      (subst (λ (ss : List Sym). All (Exists (length g.codes) (length g.names)) ss) right (rule_within k rule at).symbols)

  pub led_from_within : (r x y : ℕ) → LeadsBy g r x y → x < length g.names
  led_from_within zero x y s = absurd (cc (s.at))
  led_from_within (suc k) x y s = subst (λ (z : ℕ). z < length g.names) s.left (left_within k s.rule s.at)

-- the names that the first k rules lead to, and only names that rules lead to
pub record HasSteps (g : Grammar) (k : ℕ) (reach : List ℕ) : Type 0 where
  pub led : ReachesOnlyLed g reach
  pub steps : (r x y : ℕ) → r ≤ k → LeadsBy g r x y → reach_bit reach x y ≡ 1

pub HasSteps-none : (g : Grammar) → HasSteps g 0 (replicate 33 0)
HasSteps-none g = record {
  led = record { led = λ x y h. absurd (omega (arith, h, reach_bit-replicate 33 x y)) };
  steps = λ r x y le s. absurd (no_rule r x y le s);
}
  where
    no_rule : (r x y : ℕ) → r ≤ 0 → LeadsBy g r x y → ⊥
    no_rule zero x y le s = cc (s.at)
    no_rule (suc r) x y le s = omega arith

module _ (g : Grammar) (k : ℕ) (rule : Rule) (old new : List ℕ) (at : slice_get g.rules k ≡ Some rule)
    (added : (y : ℕ) → rule.right ≡ Name y ∷ [] → reach_bit new rule.left y ≡ 1)
    (only : (x y : ℕ) → reach_bit new x y ≡ 1 → (reach_bit old x y ≡ 1) ⊎ ((x ≡ rule.left) × (rule.right ≡ Name y ∷ [])))
    (kept : (x y : ℕ) → reach_bit old x y ≡ 1 → reach_bit new x y ≡ 1) where
  added_step : (r x y : ℕ) → r ≡ suc k → LeadsBy g r x y → reach_bit new x y ≡ 1
  added_step r x y e s =
      let same : s.rule ≡ rule = same_Some s.rule rule (sym s.at ∙ ap (rule_at g) e ∙ at) in
      let right : rule.right ≡ Name y ∷ [] = ap (λ (q : Rule). q.right) (sym same) ∙ s.right in
      let left : rule.left ≡ x = ap (λ (q : Rule). q.left) (sym same) ∙ s.left in
      subst (λ (z : ℕ). reach_bit new z y ≡ 1) left (added y right)

  pub HasSteps-more : HasSteps g k old → HasSteps g (k + 1) new
  HasSteps-more before = record {
    led = record {
      led = λ x y h. elim (only x y h) [
        | inl e ↦ before.led.led x y e
        | inr e ↦ once (suc k) y (record { rule = rule; at = at; left = sym e.0; right = e.1 })
      ];
    };
    steps = λ r x y le s. elim (cases_eq r (suc k)) [
      | inl e ↦ added_step r x y e s
      | inr ne ↦ kept x y (before.steps r x y (omega arith) s)
    ];
  }

-- the rules past the last one lead nowhere
pub ReachesSteps-all : (g : Grammar) (reach : List ℕ) → HasSteps g (length g.rules) reach → ReachesSteps g reach
ReachesSteps-all g reach h = record { steps = λ r x y s. h.steps r x y (rule_exists r x y s) s }
  where
    rule_exists : (r x y : ℕ) → LeadsBy g r x y → r ≤ length g.rules
    rule_exists zero x y s = omega arith
    rule_exists (suc k) x y s = let lt = slice_get_within g.rules k s.rule s.at in omega arith

-- a rank rises along one-symbol rules
module _ (g : Grammar) (rank : ℕ → ℕ) (names : ℕ) (ranked : IsRanked g rank names) where
  rises_by : (r x y : ℕ) → LeadsBy g r x y → rank x < rank y
  rises_by r x y s = subst (λ (z : ℕ). rank z < rank y) s.left (ranked.rises r s.rule y s.at s.right)

  pub rises_along : (x y : ℕ) → Leads g x y → rank x < rank y
  rises_along x y (once r _ s) = rises_by r x y s
  rises_along x y (again r z _ rest s) = omega (arith, rises_along x z rest, rises_by r z y s)

  pub no_cycle : (x : ℕ) → Leads g x x → ⊥
  no_cycle x h = omega (arith, rises_along x x h)
