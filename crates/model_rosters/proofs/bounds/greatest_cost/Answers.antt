use Rattle.std.proofs.Common.{arith, ◌∙◌, ◌*◌, ◌-◌, ◌≤◌, length, ap}
use Rattle.model_rosters.specs.GreatestCost.{greatest_rule_cost}
use Rattle.model_rosters.proofs.CostBounds.{shifts-within, cells-le}
use Rattle.model_rosters.proofs.SoundCells.{cells_limited}
use Rattle.model_rosters.proofs.bounds.greatest_cost.Goals as goal

shifts : (c : goal.After-from-2) → c.from-2.result * (((2 * c.from.result) - 1) * c.len.result * c.from-rule_cost.result) ≤ 4033920000
shifts c =
    shifts-within c.args.instance.now c.requires _ _ _ _ c.from-2.ensures c.from.ensures c.len.ensures
    (c.from-rule_cost.ensures ∙ c.greatest_rule_cost.ensures ∙ ap greatest_rule_cost c.as_slice.ensures)

pub overflow_mul-result-2 : goal.overflow_mul-result-2
overflow_mul-result-2 c = omega (arith, shifts c)

pub greatest_penalties-requires-clause-few : goal.greatest_penalties-requires-clause-few
greatest_penalties-requires-clause-few c = rw c.as_slice-2.ensures (cells-le c.args.instance.now c.requires)

pub greatest_penalties-requires-clause-limited : goal.greatest_penalties-requires-clause-limited
greatest_penalties-requires-clause-limited c = rw c.as_slice-2.ensures (cells_limited c.args.instance.now.grammar c.args.instance.now.cells c.requires.cells)

pub overflow_add-result : goal.overflow_add-result
overflow_add-result c =
    let few = cells-le c.args.instance.now c.requires in
    omega (arith, shifts-within c.args.instance.now c.requires _ _ _ _ c.from-2.ensures c.from.ensures c.len.ensures (c.from-rule_cost.ensures ∙ c.greatest_rule_cost.ensures ∙ ap greatest_rule_cost c.as_slice.ensures), c.greatest_penalties.ensures.within, ap length c.as_slice-2.ensures)

pub returns-clause-within : goal.returns-clause-within
returns-clause-within c =
    let few = cells-le c.args.instance.now c.requires in
    omega (arith, shifts-within c.args.instance.now c.requires _ _ _ _ c.from-2.ensures c.from.ensures c.len.ensures (c.from-rule_cost.ensures ∙ c.greatest_rule_cost.ensures ∙ ap greatest_rule_cost c.as_slice.ensures), c.greatest_penalties.ensures.within, ap length c.as_slice-2.ensures)
