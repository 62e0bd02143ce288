-- Warshall's closure: what the list of reached names keeps while names become pivots.
use Rattle.std.proofs.Common.{◌≡◌, ℕ, ◌+◌, ◌<◌, ◌⊎◌, inl, inr, List, get_or, subst, arith, max, min}
use Rattle.std.proofs.lemmas.Bool.{cases_eq}
use Rattle.std.proofs.lemmas.Nat.Bits.{bit_at-lt}
use Rattle.model_rosters.specs.declared.grammar.Grammar.{Grammar}
use Rattle.model_rosters.specs.Ranks.{reach_bit, ReachesOnlyLed, ReachesSteps, IsClosedBelow}
use Rattle.model_rosters.specs.UnitRules.{Leads, once, again}
use Rattle.model_rosters.proofs.ReachBits.{passed_bit}

pub Leads-trans : (g : Grammar) (x y z : ℕ) → Leads g x y → Leads g y z → Leads g x z
Leads-trans g x y z first (once r _ s) = again r y z first s
Leads-trans g x y z first (again r w _ rest s) = again r w z (Leads-trans g x y w first rest) s

-- a bit of the three is at most 1
passed_cases : (a b c : ℕ) → max a (min b c) ≡ 1 → b < 2 → c < 2 → (a ≡ 1) ⊎ ((b ≡ 1) × (c ≡ 1))
passed_cases a b c h bb cc' = elim (cases_eq a 1) [ inl e ↦ inl e | inr ne ↦ inr (omega arith, omega arith) ]

module _ (old new : List ℕ) (k : ℕ) (passed : (x y : ℕ) → reach_bit new x y ≡ passed_bit old k x y) where
  small : (x y : ℕ) → reach_bit old x y < 2
  small x y = bit_at-lt (get_or old x 0) y

  pub passed_from : (x y : ℕ) → reach_bit new x y ≡ 1 → (reach_bit old x y ≡ 1) ⊎ ((reach_bit old x k ≡ 1) × (reach_bit old k y ≡ 1))
  passed_from x y h =
      passed_cases (reach_bit old x y) (reach_bit old x k) (reach_bit old k y) (omega (arith, passed x y)) (small x k) (small k y)

  pub passed_keeps : (x y : ℕ) → reach_bit old x y ≡ 1 → reach_bit new x y ≡ 1
  passed_keeps x y h = omega (arith, passed x y, small x k, small k y)

  pub passed_joins : (x y : ℕ) → reach_bit old x k ≡ 1 → reach_bit old k y ≡ 1 → reach_bit new x y ≡ 1
  passed_joins x y h h' = omega (arith, passed x y, small x y)

  pub ReachesOnlyLed-passed : (g : Grammar) → ReachesOnlyLed g old → ReachesOnlyLed g new
  ReachesOnlyLed-passed g only = record {
    led = λ x y h. elim (passed_from x y h) [ inl e ↦ only.led x y e | inr e ↦ Leads-trans g x k y (only.led x k e.0) (only.led k y e.1) ];
  }

  pub ReachesSteps-passed : (g : Grammar) → ReachesSteps g old → ReachesSteps g new
  ReachesSteps-passed g has = record { steps = λ r x y s. passed_keeps x y (has.steps r x y s) }

  -- to and from the pivot nothing is new
  to_pivot : (x : ℕ) → reach_bit new x k ≡ 1 → reach_bit old x k ≡ 1
  to_pivot x h = elim (passed_from x k h) [ inl e ↦ e | inr e ↦ e.0 ]

  from_pivot : (y : ℕ) → reach_bit new k y ≡ 1 → reach_bit old k y ≡ 1
  from_pivot y h = elim (passed_from k y h) [ inl e ↦ e | inr e ↦ e.1 ]

  pub IsClosedBelow-passed : IsClosedBelow k old → IsClosedBelow (k + 1) new
  IsClosedBelow-passed closed = record {
    through = λ x m y below to from. elim (cases_eq m k) [
      | inl e ↦ passed_joins x y
          (to_pivot x (subst (λ (z : ℕ). reach_bit new x z ≡ 1) e to))
          (from_pivot y (subst (λ (z : ℕ). reach_bit new z y ≡ 1) e from))
      | inr ne ↦ let lt : m < k = omega arith in
          elim (passed_from x m to) [
            | inl xm ↦ elim (passed_from m y from) [
              | inl my ↦ passed_keeps x y (closed.through x m y lt xm my)
              | inr my ↦ passed_joins x y (closed.through x m k lt xm my.0) my.1
            ]
            | inr xm ↦ elim (passed_from m y from) [
              | inl my ↦ passed_joins x y xm.0 (closed.through k m y lt xm.1 my)
              | inr my ↦ passed_joins x y xm.0 my.1
            ]
          ]
    ];
  }
