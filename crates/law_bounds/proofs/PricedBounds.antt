-- What prices show is at most the cost of each list of trees that meets the cuts.
use Rattle.std.proofs.Common.{◌≡◌, ℕ, ℤ, arith, pos, negsuc, ◌*ℤ◌, ◌≤ℤ◌, ◌+◌, ◌-◌, ◌*◌, ◌≤◌, ◌<◌, List, ◌⊎◌, inl, inr}
use Rattle.std.proofs.Math.Nat.{div-lt_iff_lt-mul}
use Rattle.std.proofs.lemmas.Int.{ints}
use Rattle.model_rosters.specs.declared.instance.Cut.{Cut}
use Rattle.model_rosters.specs.declared.instance.Instance.{Instance}
use Rattle.model_rosters.specs.declared.instance.Prices.{Prices}
use Rattle.model_rosters.specs.Trees.{Parts}
use Rattle.model_rosters.specs.Folds.{Each}
use Rattle.model_rosters.specs.GreatestCost.{greatest_cost}
use Rattle.model_rosters.specs.Cuts.{Meets}
use Rattle.law_bounds.specs.Infeasible.{IsPlainlyInfeasible}
use Rattle.law_bounds.specs.Lagrangian.{IsLagrangian, lagrangian_sum}
use Rattle.law_bounds.specs.Priced.{IsPricedValue, rounded_up}
use Rattle.law_bounds.specs.TreeRosters.{IsTreeRoster, trees_cost}
use Rattle.law_bounds.specs.Laws.{AreNotNegative}
use Rattle.law_bounds.proofs.Relaxation.{lagrangian_sum-le}

rounded_up-le : (v : ℤ) (d c : ℕ) → 0 < d → v ≤ℤ (pos d *ℤ pos c) → rounded_up v d ≤ c
rounded_up-le (negsuc n) d c h k = omega arith
rounded_up-le (pos n) d c h k =
    let small : n ≤ d * c = omega (arith, ints) in
    let below : n + (d - 1) < (c + 1) * d = omega arith in
    let less = (div-lt_iff_lt-mul {k = d} {x = n + (d - 1)} {y = c + 1} h).1 below in
    omega arith

module _ (i : Instance) (p : Prices) (cuts : List Cut) (ts : List Parts) (mults : AreNotNegative p) (busy : IsPlainlyInfeasible i → ⊥) (roster : IsTreeRoster i ts) (meets : Each (Meets ts) cuts) where
  lagrangian-le : (v : ℤ) → IsLagrangian i p cuts v → v ≤ℤ (pos p.d *ℤ pos (trees_cost i ts))
  lagrangian-le v l = from l.value
    where
      from : (IsPlainlyInfeasible i × (v ≡ pos p.d *ℤ pos (greatest_cost i + 1))) ⊎ ((IsPlainlyInfeasible i → ⊥) × (v ≡ lagrangian_sum i p cuts l.z)) → v ≤ℤ (pos p.d *ℤ pos (trees_cost i ts))
      from (inl h) = absurd (busy h.0)
      from (inr h) = omega (arith, ints, h.1, lagrangian_sum-le i p cuts l.z ts l.least roster meets mults)

  pub priced-le : (v : ℕ) → 1 ≤ p.d → IsPricedValue i p cuts v → v ≤ trees_cost i ts
  priced-le v some h =
      let r = rounded_up-le h.lagrangian p.d (trees_cost i ts) some (lagrangian-le h.lagrangian h.is_lagrangian) in
      let e = h.value in
      omega arith
