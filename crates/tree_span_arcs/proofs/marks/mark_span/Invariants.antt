use Rattle.std.proofs.Common.{◌+◌, ◌*◌, length}
use Rattle.tree_span_arcs.specs.Marks.{Adds, ClosedFrom}
use Rattle.tree_span_arcs.proofs.marks.mark_span.Given as goal

abbrev pub invariant-loop-slot : goal.invariant-loop-slot
invariant-loop-slot l = record {
  adds : Adds l.grammar l.layout ((l.place + 1) * length l.layout.slots.items) l.fn.marks l.marks;
  closed : ClosedFrom l.grammar l.layout l.marks (l.place * length l.layout.slots.items + l.slot);
}
