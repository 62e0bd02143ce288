use Rattle.tree_short_order.specs.Best.{AreBestBefore}
use Rattle.tree_short_order.proofs.best.first_arcs.Given as goal

abbrev pub invariant-loop-node : goal.invariant-loop-node
invariant-loop-node l = record { best : AreBestBefore l.graph l.node l.best.items }
