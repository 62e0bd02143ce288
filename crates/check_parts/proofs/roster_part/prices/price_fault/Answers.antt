use Rattle.std.proofs.Common.{refl, arith}
use Rattle.std.proofs.lemmas.Option.{slice_get_read}
use Rattle.check_parts.proofs.roster_part.Items.{before-next, before-none}
use Rattle.check_parts.proofs.roster_part.WordPrices.{HasPrice, IsAtPrice, so_far, price_next, no_shift-first, all_priced}
use Rattle.check_parts.proofs.roster_part.prices.price_fault.Goals as goal

pub loop-place-init : goal.loop-place-init
loop-place-init c = record {
  kept = λ g made. made;
  priced = before-none (HasPrice c.args.instance.now) c.args.shifts.now;
  before = λ j s e at. absurd (omega (arith, e));
  first = before-none (IsAtPrice c.args.instance.now) c.args.shifts.now;
}

pub loop-place-preserved : goal.loop-place-preserved
loop-place-preserved c =
    let i = c.args.instance.now in
    let shifts = c.args.shifts.now in
    let k = c.loop-place.place in
    let s = c.index-shifts-place.result in
    let here = slice_get_read shifts _ k s refl c.loop-place-test.true c.index-shifts-place.is in
    let before = c.loop-place.invariant in
    let price = c.in-Some.ensures.value in
    record {
      kept = λ g made. c.in-Some.ensures.kept g (before.kept g made);
      priced = before-next (HasPrice i) shifts k s here (c.in-Some.least, price) before.priced;
      before = price_next i shifts k s c.in-Some.least here price;
      first = rw c.or-mispriced.ensures (so_far i shifts k s c.in-Some.least c.loop-place.mispriced c.other_price.result here price before.first c.other_price.ensures);
    }

pub returns-in_default-clause-value : goal.returns-in_default-clause-value
returns-in_default-clause-value c =
    let i = c.args.instance.now in
    let shifts = c.args.shifts.now in
    let k = c.loop-place.place in
    let s = c.index-shifts-place.result in
    let here = slice_get_read shifts _ k s refl c.loop-place-test.true c.index-shifts-place.is in
    no_shift-first i shifts k s here c.in_default.ensures.value c.loop-place.invariant.priced

pub returns-clause-value : goal.returns-clause-value
returns-clause-value c =
    all_priced c.args.instance.now c.args.shifts.now c.loop-place.place c.loop-place.mispriced (omega arith) c.loop-place.invariant.priced c.loop-place.invariant.first
