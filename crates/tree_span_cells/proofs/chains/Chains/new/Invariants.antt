use Rattle.std.proofs.Common.{◌+◌}
use Rattle.tree_span_cells.specs.Chains.{AreChainedFrom}
use Rattle.tree_span_cells.proofs.chains.Chains.new.Given as goal

abbrev pub invariant-loop-index : goal.invariant-loop-index
invariant-loop-index l = AreChainedFrom l.grammar l.first.items l.next.items (l.index + 1)
