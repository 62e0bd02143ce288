use Rattle.std.proofs.Common.{◌≤◌, ◌+◌, ◌-◌, ◌*◌, length}
use Rattle.tree_span_cells.specs.Places.{place_of}
use Rattle.tree_span_table.specs.next_codes.Totals.{AreLowered, AreThrough}
use Rattle.tree_span_table.specs.next_codes.Pushes.{PartsDone}
use Rattle.tree_span_table.proofs.next_codes.parts.push_parts.Given as goal

abbrev pub invariant-loop-point : goal.invariant-loop-point
invariant-loop-point g l = record {
  low : l.span.start + 1 ≤ l.point;
  high : l.point ≤ l.end;
  done : PartsDone l.grammar (g.P.LetterPrice.view l.prices) l.layout l.totals l.suffix.rule l.suffix.from l.rule.right l.span.start l.span.len l.outside (l.point - l.span.start);
  lowered : AreLowered (place_of l.layout.spans l.span.start l.span.len * length l.layout.slots.items) l.fn.totals l.totals;
  through : AreThrough l.grammar (g.P.LetterPrice.view l.prices) l.layout l.totals;
}

abbrev pub decreases-loop-point : goal.decreases-loop-point
decreases-loop-point g l = l.end - l.point
