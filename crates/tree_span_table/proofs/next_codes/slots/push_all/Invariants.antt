use Rattle.std.proofs.Common.{◌*◌, length}
use Rattle.tree_span_cells.specs.Cells.{cell_count}
use Rattle.tree_span_table.specs.next_codes.Totals.{AreLowered, AreThrough}
use Rattle.tree_span_table.specs.next_codes.Pushes.{DoneFrom}
use Rattle.tree_span_table.proofs.next_codes.slots.push_all.Given as goal

abbrev pub invariant-loop-place : goal.invariant-loop-place
invariant-loop-place g l = record {
  done : DoneFrom l.grammar (g.P.LetterPrice.view l.prices) l.layout l.totals (l.place * length l.layout.slots.items);
  lowered : AreLowered (cell_count l.layout) l.fn.totals l.totals;
  through : AreThrough l.grammar (g.P.LetterPrice.view l.prices) l.layout l.totals;
}
