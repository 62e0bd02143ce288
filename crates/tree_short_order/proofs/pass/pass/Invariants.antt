use Rattle.tree_short_order.specs.Best.{AreBest}
use Rattle.tree_short_order.proofs.pass.pass.Given as goal

abbrev pub invariant-loop-row : goal.invariant-loop-row
invariant-loop-row g l = record { best : AreBest l.graph l.best.items }
