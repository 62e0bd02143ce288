use Rattle.std.proofs.Common.{ℕ, ◌+◌, ◌*◌, length}
use Rattle.tree_span_cells.specs.Cells.{AreMade, RightBefore}
use Rattle.tree_span_cells.proofs.fill.fill_span.Given as goal

abbrev pub invariant-loop-slot : goal.invariant-loop-slot
invariant-loop-slot g l = record {
  before : RightBefore l.grammar (g.P.LetterPrice.view l.prices) l.layout (g.C.Cells.held l.cells) (l.place * length l.layout.slots.items + l.slot);
  made : (m n : ℕ) → AreMade m n (g.C.Cells.held l.fn.cells) → AreMade m n (g.C.Cells.held l.cells);
}
