use Rattle.std.proofs.Common.{◌≡◌, ◌^◌, arith, Bool, true, false, pos, SFits, refl, sym, ◌∙◌}
use Rattle.std.specs.Prelude.{◌≤ℤ◌}
use Rattle.std.specs.Int.{w64}
use Rattle.std.proofs.lemmas.Int.{to_z-of_z, ints}
use Rattle.std.proofs.lemmas.Bool.{false≢true}
use Rattle.std.specs.Bool.{OnTrue}
use Rattle.lp_fractions.specs.pivot_rows.Columns.{AreUnits}
use Rattle.lp_tableaus.proofs.Places.{units_all}
use Rattle.lp_tableaus.proofs.small.is_small.Goals as goal
use Rattle.lp_tableaus.proofs.small.is_small.Goals.{then-cost-ge0, else-cost-ge0}

on_true : (b : Bool) (P : Type 0) → (b ≡ true → P) → OnTrue b P
on_true true P f = f refl
on_true false P f = tt

pub returns-then-cost-le-MOST_COST-clause-units : goal.returns-then-cost-le-MOST_COST-clause-units
returns-then-cost-le-MOST_COST-clause-units c =
    on_true c.has_units.result (AreUnits c.args.places.now) (λ t. units_all c.args.places.now (c.has_units.ensures.0 t))

pub returns-then-cost-le-MOST_COST-clause-cost : goal.returns-then-cost-le-MOST_COST-clause-cost
returns-then-cost-le-MOST_COST-clause-cost c =
    let f : SFits w64 c.args.cost = c.ranges.cost in
    elim c.if-cost-ge0.branch [
      | then-cost-ge0 w ↦
          (let low = simp to_z-of_z at w.if-cost-ge0.true in
          let high = simp to_z-of_z at (sym w.value-is ∙ c.if-cost-le-MOST_COST.true) in
          on_true c.has_units.result ((pos 0 ≤ℤ c.args.cost) × (c.args.cost ≤ℤ pos (2 ^ 39))) (λ t. (omega (arith, ints, low), omega (arith, ints, high))))
      | else-cost-ge0 w ↦ absurd (false≢true (sym (w.value-is ∙ w.if-cost-ge0.false) ∙ c.if-cost-le-MOST_COST.true))
    ]
