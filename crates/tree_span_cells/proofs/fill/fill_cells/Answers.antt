use Rattle.std.proofs.Common.{ℕ, arith, ◌≡◌, ◌+◌, ◌∙◌, ap}
use Rattle.tree_span_cells.specs.Places.{shorter}
use Rattle.tree_span_cells.proofs.CellsLemmas.{right-all, ready-made, clear-made, some-periods}
use Rattle.tree_span_cells.proofs.fill.fill_cells.Goals as goal

pub loop-place-init : goal.loop-place-init
loop-place-init g c = record {
  before = λ s i l what here day less. absurd (omega (arith, less));
  at = omega arith;
  day = λ some. record { begins = omega arith; some = omega arith; within = omega (arith, some-periods c.args.layout.now.spans some) };
  made = λ m n h. clear-made m n _ _ c.clear.ensures.sums c.clear.ensures.ends c.clear.ensures.starts h;
}

pub fill_span-requires-clause-ready : goal.fill_span-requires-clause-ready
fill_span-requires-clause-ready g c = ready-made c.args.grammar.now c.args.layout.now (g.C.Cells.held c.args.cells.now) (g.C.Cells.held c.loop-place.cells) c.requires.ready c.loop-place.invariant.made

pub loop-place-preserved : goal.loop-place-preserved
loop-place-preserved g c =
    let same = c.requires.ready.layout.periods in
    record {
      before = c.fill_span.ensures.before;
      at = rw same (c.after-span.ensures.place ∙ ap (λ (q : ℕ). q + 1) (rw same at c.loop-place.invariant.at));
      day = rw same (λ less. c.after-span.ensures.day (omega (arith, less, c.after-span.ensures.place, rw same at c.loop-place.invariant.at)));
      made = λ m n h. c.fill_span.ensures.made m n (c.loop-place.invariant.made m n h);
    }

pub returns-clause-made : goal.returns-clause-made
returns-clause-made g c = c.loop-place.invariant.made

pub returns-clause-filled : goal.returns-clause-filled
returns-clause-filled g c =
    let same : c.loop-place.place ≡ shorter c.args.layout.now.spans c.args.layout.now.spans = omega (arith, c.count-place-end.ensures.spans) in
    right-all c.args.grammar.now (g.P.LetterPrice.view c.args.prices.now) c.args.layout.now c.requires.ready.layout (g.C.Cells.held c.loop-place.cells)
    (rw same at c.loop-place.invariant.before)
