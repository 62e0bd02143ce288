use Rattle.std.proofs.Common.{◌≡◌, drop}
use Rattle.tree_pool.specs.Orders.{steps_cmp}
use Rattle.tree_pool.proofs.order.compare.Given as goal

abbrev pub invariant-loop-place : goal.invariant-loop-place
invariant-loop-place l = steps_cmp l.steps l.others ≡ steps_cmp (drop l.place l.steps) (drop l.place l.others)
