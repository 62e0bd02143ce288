use Rattle.tree_span_cells.specs.Building.{AddsSuffixes}
use Rattle.tree_span_cells.proofs.build.add_suffixes.Given as goal

abbrev pub invariant-loop-earlier : goal.invariant-loop-earlier
invariant-loop-earlier l = AddsSuffixes l.number l.earlier l.initial.slots l.slots
