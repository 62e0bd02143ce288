use Rattle.std.proofs.Common.{arith, ◌<◌, ◌-◌, ◌+◌, ◌*◌, ◌^◌, cond, length, get_or, pos, subst, sym, take}
use Rattle.std.proofs.lemmas.Option.{slice_get-get_or}
use Rattle.model_rosters.specs.declared.arc_prices.ArcPrice.{ArcPrice}
use Rattle.model_rosters.specs.declared.instance.Mult.{Mult}
use Rattle.model_rosters.specs.ArcEntries.{IsEntryWithin}
use Rattle.model_rosters.specs.PriceLimits.{is_nonzero, nonzero}
use Rattle.model_rosters.proofs.Entries.{entries-wider}
use Rattle.model_rosters.proofs.Mults.{listed-step, listed-all, rising-rest, nonzero-take, nonzero-more, share-within}
use Rattle.model_rosters.proofs.arc_prices.set_arcs.Goals as goal

abbrev no_mult : Mult
no_mult = record { cut = 0; value = pos 0 }

pub add-requires-clause-small : goal.add-requires-clause-small
add-requires-clause-small c =
    let most = nonzero-take c.loop-m.m-index c.args.mult.now in
    entries-wider (2 ^ 80 * nonzero (take c.loop-m.m-index c.args.mult.now)) (2 ^ 96) c.loop-m.entries.items (omega (arith, most, c.requires.few)) c.loop-m.invariant.small

pub loop-m-preserved : goal.loop-m-preserved
loop-m-preserved c =
    let k = c.loop-m.m-index in
    let m : Mult = get_or c.args.mult.now k no_mult in
    let is = c.requires.mults k no_mult c.loop-m-test.true in
    let within : m.cut - 1 < length c.args.cuts.now = omega (arith, is.first, is.last) in
    let i = c.loop-m.invariant in
    let before = nonzero (take k c.args.mult.now) in
    let one = cond (is_nonzero m) 1 0 in
    let own : IsEntryWithin (2 ^ 80 * one) c.entry.result =
    subst (λ (e : ArcPrice). IsEntryWithin (2 ^ 80 * one) e) (sym c.entry.ensures.value) (record { price = share-within _ m.value (2 ^ 80) is.least is.most }) in
    let more = nonzero-more c.args.mult.now k no_mult c.loop-m-test.true in
    record {
      value = listed-step c.args.cuts.now c.args.mult.now k no_mult c.loop-m-test.true _ c.loop-m.entries.items _ c.entry.result
          i.rising is.first (slice_get-get_or c.args.cuts.now (m.cut - 1) _ within) c.entry.ensures.value c.add.ensures.value i.value;
      sorted = c.add.ensures.sorted;
      marked = c.add.ensures.marked;
      small = entries-wider (2 ^ 80 * before + 2 ^ 80 * one) (2 ^ 80 * nonzero (take (k + 1) c.args.mult.now)) _ (omega (arith, more))
          (c.add.ensures.small (2 ^ 80 * before) (2 ^ 80 * one) i.small own);
      long = omega (arith, i.long, c.add.ensures.length);
      capacity = omega (arith, c.add.ensures.capacity, i.capacity);
      rising = rising-rest c.args.cuts.now c.args.mult.now k no_mult c.loop-m-test.true i.rising;
    }

pub returns-clause-value : goal.returns-clause-value
returns-clause-value c = listed-all c.args.cuts.now c.args.mult.now c.loop-m.m-index c.loop-m.entries.items (omega arith) c.loop-m.invariant.value

pub returns-clause-small : goal.returns-clause-small
returns-clause-small c =
    let most = nonzero-take c.loop-m.m-index c.args.mult.now in
    entries-wider (2 ^ 80 * nonzero (take c.loop-m.m-index c.args.mult.now)) (2 ^ 96) c.loop-m.entries.items (omega (arith, most, c.requires.few)) c.loop-m.invariant.small
