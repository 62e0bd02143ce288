use Rattle.std.proofs.Common.{◌+◌, ◌*◌, length}
use Rattle.tree_span_table.specs.next_codes.Totals.{AreLowered, AreThrough}
use Rattle.tree_span_table.specs.next_codes.Pushes.{DoneFrom}
use Rattle.tree_span_table.proofs.next_codes.slots.push_span.Given as goal

abbrev pub invariant-loop-slot : goal.invariant-loop-slot
invariant-loop-slot g l = record {
  done : DoneFrom l.grammar (g.P.LetterPrice.view l.prices) l.layout l.totals (l.place * length l.layout.slots.items + l.slot);
  lowered : AreLowered ((l.place + 1) * length l.layout.slots.items) l.fn.totals l.totals;
  through : AreThrough l.grammar (g.P.LetterPrice.view l.prices) l.layout l.totals;
}
