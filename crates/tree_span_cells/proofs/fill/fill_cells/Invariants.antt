use Rattle.std.proofs.Common.{ℕ, ◌*◌, ◌<◌, ◌≡◌, length}
use Rattle.model_rosters.specs.Grammar.{InDay}
use Rattle.tree_span_cells.specs.Places.{shorter, place_of}
use Rattle.tree_span_cells.specs.Cells.{AreMade, RightBefore}
use Rattle.tree_span_cells.proofs.fill.fill_cells.Given as goal

abbrev pub invariant-loop-place : goal.invariant-loop-place
invariant-loop-place g l = record {
  before : RightBefore l.grammar (g.P.LetterPrice.view l.prices) l.layout (g.C.Cells.held l.cells) (l.place * length l.layout.slots.items);
  at : place_of l.layout.spans l.span.start l.span.len ≡ l.place;
  day : l.place < shorter l.layout.spans l.layout.spans → InDay l.layout.spans l.span.start l.span.len;
  made : (m n : ℕ) → AreMade m n (g.C.Cells.held l.fn.cells) → AreMade m n (g.C.Cells.held l.cells);
}
