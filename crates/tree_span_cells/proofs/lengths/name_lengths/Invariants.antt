use Rattle.tree_span_cells.specs.Lengths.{HoldNames, HoldRules}
use Rattle.tree_span_cells.proofs.lengths.name_lengths.Given as goal

abbrev pub invariant-loop-index : goal.invariant-loop-index
invariant-loop-index l = HoldNames l.grammar l.names → HoldRules l.grammar l.name l.index l.lengths
