use Rattle.tree_span_cells.specs.Lengths.{AreLengths}
use Rattle.tree_span_cells.proofs.lengths.slot_lengths.Given as goal

abbrev pub invariant-loop-slot : goal.invariant-loop-slot
invariant-loop-slot l = AreLengths l.grammar l.slots l.lengths.items l.slot
