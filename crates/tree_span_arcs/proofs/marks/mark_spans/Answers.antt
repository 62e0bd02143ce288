use Rattle.std.proofs.Common.{ℕ, arith, ◌+◌, ◌-◌, ◌*◌, ◌∙◌, ap, sym, length}
use Rattle.std.proofs.lemmas.Nat.{mul-le}
use Rattle.tree_span_cells.specs.Places.{shorter}
use Rattle.tree_span_cells.specs.Cells.{cell_count}
use Rattle.tree_span_arcs.proofs.MarksLemmas.{adds-none, adds-more, adds-up, closed-beyond, day-last}
use Rattle.tree_span_arcs.proofs.marks.mark_spans.Goals as goal

pub loop-place-init : goal.loop-place-init
loop-place-init c =
    let same = c.requires.ready.layout.periods in
    record {
      adds = adds-none c.args.grammar.now c.args.layout.now (cell_count c.args.layout.now) c.args.marks.now;
      at = rw same (λ some. day-last c.args.grammar.now.periods c.requires.sound.some_period ∙ ap (λ (q : ℕ). q - 1) (sym (rw same at c.count-place.ensures.spans)));
      day = rw same (λ some. record { begins = omega arith; some = c.requires.sound.some_period; within = omega arith });
      closed = rw c.count-place.ensures.spans (closed-beyond c.args.grammar.now c.args.layout.now c.requires.ready.layout c.args.marks.now);
    }

pub loop-place-preserved : goal.loop-place-preserved
loop-place-preserved c =
    let g = c.args.grammar.now in
    let lay = c.args.layout.now in
    let same = c.requires.ready.layout.periods in
    let at = rw same at (c.loop-place.invariant.at (omega (arith, c.loop-place-test.true))) in
    let most = mul-le (c.loop-place.place - 1 + 1) (length c.args.layout.now.slots.items) (shorter c.args.layout.now.spans c.args.layout.now.spans) (length c.args.layout.now.slots.items) (omega arith) (omega arith) in
    record {
      adds = adds-more g lay (cell_count lay) _ _ _ c.loop-place.invariant.adds
          (adds-up g lay ((c.loop-place.place - 1 + 1) * length c.args.layout.now.slots.items) (cell_count lay) _ _ most c.mark_span.ensures.adds);
      at = rw same (λ some. c.before-span.ensures.place (omega (arith, some, at)) ∙ ap (λ (q : ℕ). q - 1) at);
      day = rw same (λ some. c.before-span.ensures.day (omega (arith, some, at)));
      closed = c.mark_span.ensures.closed;
    }
