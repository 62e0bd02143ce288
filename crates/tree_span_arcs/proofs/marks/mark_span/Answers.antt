use Rattle.std.proofs.Common.{arith, ◌≡◌, ◌≤◌, ◌<◌, ◌+◌, ◌-◌, ◌*◌, ℕ, length, sym, ap}
use Rattle.model_rosters.specs.Grammar.{InDay}
use Rattle.tree_span_cells.specs.Cells.{place}
use Rattle.tree_span_arcs.specs.Marks.{ClosedFrom}
use Rattle.tree_span_arcs.proofs.MarksLemmas.{adds-more, adds-up, closed-next}
use Rattle.tree_span_arcs.proofs.marks.mark_span.Goals as goal

pub loop-slot-preserved : goal.loop-slot-preserved
loop-slot-preserved c =
    let g = c.args.grammar.now in
    let lay = c.args.layout.now in
    let width : c.len-slot.result ≡ length c.args.layout.now.slots.items = omega arith in
    let lt : c.loop-slot.slot - 1 < length c.args.layout.now.slots.items = omega arith in
    let day : InDay c.args.grammar.now.periods c.args.span.start c.args.span.len = rw (← c.requires.ready.layout.periods) c.requires.day in
    let at : c.args.place * length c.args.layout.now.slots.items + (c.loop-slot.slot - 1) ≡ place c.args.layout.now (c.loop-slot.slot - 1) c.args.span.start c.args.span.len =
    ap (λ (q : ℕ). q * length c.args.layout.now.slots.items + (c.loop-slot.slot - 1)) (sym c.requires.at) in
    let end : place c.args.layout.now (c.loop-slot.slot - 1) c.args.span.start c.args.span.len ≤ (c.args.place + 1) * length c.args.layout.now.slots.items = omega (arith, at, lt) in
    let after : ClosedFrom c.args.grammar.now c.args.layout.now c.loop-slot.marks (place c.args.layout.now (c.loop-slot.slot - 1) c.args.span.start c.args.span.len + 1) =
    λ s i l what here there le marked. c.loop-slot.invariant.closed s i l what here there (omega (arith, at, le, c.loop-slot-test.true)) marked in
    let next = closed-next g lay c.requires.ready.layout c.loop-slot.marks c.mark_slot.new.marks (c.loop-slot.slot - 1) c.args.span.start c.args.span.len lt day c.mark_slot.ensures.adds after c.mark_slot.ensures.closed in
    record {
      adds = adds-more g lay ((c.args.place + 1) * length c.args.layout.now.slots.items) _ _ _ c.loop-slot.invariant.adds
          (adds-up g lay (place lay (c.loop-slot.slot - 1) c.args.span.start c.args.span.len) ((c.args.place + 1) * length c.args.layout.now.slots.items) _ _ end c.mark_slot.ensures.adds);
      closed = λ s i l what here there le marked. next s i l what here there (omega (arith, at, le)) marked;
    }
