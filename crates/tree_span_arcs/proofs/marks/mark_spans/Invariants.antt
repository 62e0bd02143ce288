use Rattle.std.proofs.Common.{◌*◌, ◌-◌, ◌≤◌, ◌≡◌, length}
use Rattle.model_rosters.specs.Grammar.{InDay}
use Rattle.tree_span_cells.specs.Places.{place_of}
use Rattle.tree_span_cells.specs.Cells.{cell_count}
use Rattle.tree_span_arcs.specs.Marks.{Adds, ClosedFrom}
use Rattle.tree_span_arcs.proofs.marks.mark_spans.Given as goal

abbrev pub invariant-loop-place : goal.invariant-loop-place
invariant-loop-place l = record {
  adds : Adds l.grammar l.layout (cell_count l.layout) l.fn.marks l.marks;
  at : 1 ≤ l.place → place_of l.layout.spans l.span.start l.span.len ≡ l.place - 1;
  day : 1 ≤ l.place → InDay l.layout.spans l.span.start l.span.len;
  closed : ClosedFrom l.grammar l.layout l.marks (l.place * length l.layout.slots.items);
}
