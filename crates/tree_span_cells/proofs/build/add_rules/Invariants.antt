use Rattle.tree_span_cells.specs.Building.{SuffixSlots}
use Rattle.tree_span_cells.proofs.build.add_rules.Given as goal

abbrev pub invariant-loop-index : goal.invariant-loop-index
invariant-loop-index l = SuffixSlots l.grammar l.slots l.starts l.index
