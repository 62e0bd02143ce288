use Rattle.std.proofs.Common.{arith, ℕ, ◌≡◌, ◌+◌, ◌-◌, ◌*◌, length, ap}
use Rattle.tree_span_cells.specs.Places.{place_of}
use Rattle.tree_span_table.specs.next_codes.Totals.{AreLowered}
use Rattle.tree_span_table.proofs.next_codes.LoweredTotals.{lowered-none, lowered-more, lowered-twice, lowered-counted}
use Rattle.tree_span_table.proofs.next_codes.slots.push_span.Goals as goal

pub loop-slot-init : goal.loop-slot-init
loop-slot-init g c = record {
  done = λ s i l what here day le. c.requires.later s i l what here day (omega (arith, le));
  lowered = lowered-none ((c.args.place + 1) * length c.args.layout.now.slots.items) c.args.totals.now;
  through = c.requires.pushing.through;
}

pub push_slot-requires-clause-pushing : goal.push_slot-requires-clause-pushing
push_slot-requires-clause-pushing g c = record {
  sound = c.requires.pushing.sound;
  ready = c.requires.pushing.ready;
  filled = c.requires.pushing.filled;
  counted = lowered-counted c.args.grammar.now c.args.layout.now ((c.args.place + 1) * length c.args.layout.now.slots.items) c.args.totals.now c.loop-slot.totals c.loop-slot.invariant.lowered c.requires.pushing.counted;
  through = c.loop-slot.invariant.through;
}

pub push_slot-requires-clause-later : goal.push_slot-requires-clause-later
push_slot-requires-clause-later g c = λ s i l what here day le.
    let at : place_of c.args.layout.now.spans c.span-start.result.0 c.span-start.result.1 * length c.args.layout.now.slots.items + (c.loop-slot.slot - 1) ≡ c.args.place * length c.args.layout.now.slots.items + (c.loop-slot.slot - 1) =
    ap (λ (q : ℕ). q * length c.args.layout.now.slots.items + (c.loop-slot.slot - 1)) c.span-start.ensures.place in
    c.loop-slot.invariant.done s i l what here day (omega (arith, le, at))

pub loop-slot-preserved : goal.loop-slot-preserved
loop-slot-preserved g c =
    let at : place_of c.args.layout.now.spans c.span-start.result.0 c.span-start.result.1 * length c.args.layout.now.slots.items + (c.loop-slot.slot - 1) ≡ c.args.place * length c.args.layout.now.slots.items + (c.loop-slot.slot - 1) =
    ap (λ (q : ℕ). q * length c.args.layout.now.slots.items + (c.loop-slot.slot - 1)) c.span-start.ensures.place in
    let width : c.len-slot.result ≡ length c.args.layout.now.slots.items = omega arith in
    let end = (c.args.place + 1) * length c.args.layout.now.slots.items in
    let low : AreLowered ((c.args.place + 1) * length c.args.layout.now.slots.items) c.loop-slot.totals c.push_slot.new.totals =
    lowered-more _ _ _ _ (omega (arith, at, width, c.loop-slot.auto.slot)) c.push_slot.ensures.lowered in
    record {
      done = λ s i l what here day le. c.push_slot.ensures.done s i l what here day (omega (arith, le, at));
      lowered = lowered-twice end end c.args.totals.now c.loop-slot.totals c.push_slot.new.totals (omega arith) c.loop-slot.invariant.lowered low;
      through = c.push_slot.ensures.through;
    }
