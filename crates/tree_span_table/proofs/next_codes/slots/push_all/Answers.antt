use Rattle.std.proofs.Common.{arith, ℕ, ◌≡◌, ◌≤◌, ◌+◌, ◌-◌, ◌*◌, length, subst}
use Rattle.std.proofs.Math.Nat.{mul-le-mul_right}
use Rattle.tree_span_cells.specs.Places.{shorter}
use Rattle.tree_span_cells.specs.Cells.{cell_count}
use Rattle.tree_span_table.specs.next_codes.Totals.{AreLowered}
use Rattle.tree_span_table.specs.next_codes.Pushes.{DoneFrom}
use Rattle.tree_span_table.proofs.next_codes.LoweredTotals.{lowered-none, lowered-more, lowered-twice, lowered-counted}
use Rattle.tree_span_table.proofs.next_codes.PushesLemmas.{from-end}
use Rattle.tree_span_table.proofs.next_codes.slots.push_all.Goals as goal

pub loop-place-init : goal.loop-place-init
loop-place-init g c = record {
  done = from-end c.args.grammar.now (g.P.LetterPrice.view c.args.prices.now) c.args.layout.now c.requires.pushing.ready.layout c.args.totals.now _ (omega (arith, c.count-place.ensures.spans));
  lowered = lowered-none (cell_count c.args.layout.now) c.args.totals.now;
  through = c.requires.pushing.through;
}

pub push_span-requires-clause-pushing : goal.push_span-requires-clause-pushing
push_span-requires-clause-pushing g c = record {
  sound = c.requires.pushing.sound;
  ready = c.requires.pushing.ready;
  filled = c.requires.pushing.filled;
  counted = lowered-counted c.args.grammar.now c.args.layout.now (cell_count c.args.layout.now) c.args.totals.now c.loop-place.totals c.loop-place.invariant.lowered c.requires.pushing.counted;
  through = c.loop-place.invariant.through;
}

pub push_span-requires-clause-later : goal.push_span-requires-clause-later
push_span-requires-clause-later g c =
    let e : c.loop-place.place ≡ c.loop-place.place - 1 + 1 = omega (arith, c.loop-place-test.true) in
    subst (λ (q : ℕ). DoneFrom c.args.grammar.now (g.P.LetterPrice.view c.args.prices.now) c.args.layout.now c.loop-place.totals (q * length c.args.layout.now.slots.items)) e c.loop-place.invariant.done

pub loop-place-preserved : goal.loop-place-preserved
loop-place-preserved g c =
    let some : c.loop-place.place - 1 + 1 ≤ shorter c.args.layout.now.spans c.args.layout.now.spans = omega (arith, c.loop-place.auto, c.loop-place-test.true, c.count-place.ensures.spans) in
    let low : AreLowered (cell_count c.args.layout.now) c.loop-place.totals c.push_span.new.totals =
    lowered-more _ _ _ _ (mul-le-mul_right (length c.args.layout.now.slots.items) some) c.push_span.ensures.lowered in
    record {
      done = c.push_span.ensures.done;
      lowered = lowered-twice _ _ c.args.totals.now c.loop-place.totals c.push_span.new.totals (omega arith) c.loop-place.invariant.lowered low;
      through = c.push_span.ensures.through;
    }
