use Rattle.std.proofs.Common.{arith, ◌≤◌, ◌*◌, ◌+◌}
use Rattle.model_rosters.proofs.CostBounds.{cells-le, loss-within}
use Rattle.model_rosters.proofs.bounds.rounding_loss.Goals as goal

loss : (c : goal.After-from-3) → c.from-3.result * (c.from.result + 2 * c.from-2.result + c.len.result) ≤ 247296
loss c =
    loss-within c.args.instance.now c.requires.sound _ _ _ _ c.from-3.ensures c.from.ensures (omega (arith, c.from-2.ensures, c.requires.few)) c.len.ensures

pub overflow_add-terms-2 : goal.overflow_add-terms-2
overflow_add-terms-2 c = let few = cells-le c.args.instance.now c.requires.sound in omega arith

pub overflow_mul-result : goal.overflow_mul-result
overflow_mul-result c = omega (arith, loss c)

pub returns-clause-within : goal.returns-clause-within
returns-clause-within c = loss c
