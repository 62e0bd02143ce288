use Rattle.std.proofs.Common.{◌≡◌, ◌<◌, ◌-◌, ◌+◌, ◌*◌, ◌^◌, cond, pos, length, get_or, take, arith}
use Rattle.std.proofs.lemmas.Int.{ints}
use Rattle.std.proofs.lemmas.Option.{slice_get-get_or}
use mir.Val.{to_z, of_z}
use mir.Syntax.{w128}
use Rattle.model_rosters.specs.declared.instance.Cut.{Cut}
use Rattle.model_rosters.specs.declared.instance.Mult.{Mult}
use Rattle.model_rosters.specs.declared.instance.Side.TheVariants.{Low}
use Rattle.model_rosters.specs.PriceLimits.{is_nonzero, nonzero}
use Rattle.model_rosters.specs.Sums.{Within}
use Rattle.model_rosters.proofs.Mults.{nonzero-take, nonzero-more}
use Rattle.law_bounds.specs.Lagrangian.{share_of}
use Rattle.check_parts.proofs.priced_part.CutSums.{mults-next, mults-end, mults-rising, share-within}
use Rattle.check_parts.proofs.priced_part.shares.cuts_share.Goals as goal

abbrev no_mult : Mult
no_mult = record { cut = 0; value = pos 0 }

abbrev no_cut : Cut
no_cut = record { arc = record { rule = 0; suffix = 0; start = 0; len = 0; part = 0 }; side = Low; b = 0 }

pub loop-m-preserved : goal.loop-m-preserved
loop-m-preserved c =
    let k = c.loop-m.m-index in
    let cuts = c.args.cuts.now in
    let mult = c.args.mult.now in
    let m : Mult = get_or mult k no_mult in
    let is = c.requires.mults k no_mult c.loop-m-test.true in
    let there : m.cut - 1 < length cuts = omega (arith, is.first, is.last) in
    let cut : Cut = get_or cuts (m.cut - 1) no_cut in
    let fits : to_z w128 (of_z w128 m.value) ≡ m.value = omega (arith, ints, is.least, is.most) in
    let share : c.share_of-sum.result ≡ share_of cut.side m.value cut.b = rw fits at c.share_of-sum.ensures.value in
    let i = c.loop-m.invariant in
    let next = mults-next cuts mult k no_mult c.loop-m-test.true cut i.rising is.first (slice_get-get_or cuts (m.cut - 1) no_cut there) in
    let w = c.share_of-sum.ensures.within in
    let few = c.requires.few in
    let one = cond (is_nonzero m) 1 0 in
    let v : Within (2 ^ 87 * one) (share_of cut.side m.value cut.b) = share-within cut.side m.value cut.b (2 ^ 87) (rw share at w) in
    let more = nonzero-more mult k no_mult c.loop-m-test.true in
    let most = nonzero-take (k + 1) mult in
    record {
      value = omega (arith, ints, i.value, next, share, w.low, w.high, i.within.low, i.within.high, i.few);
      within = record {
        low = omega (arith, ints, w.low, w.high, i.within.low, i.within.high, i.few, share, more, v.low, v.high);
        high = omega (arith, ints, w.low, w.high, i.within.low, i.within.high, i.few, share, more, v.low, v.high);
      };
      few = omega (arith, few, most);
      rising = mults-rising cuts mult k no_mult c.loop-m-test.true i.rising;
    }

pub returns-clause-value : goal.returns-clause-value
returns-clause-value c =
    let end = mults-end c.args.cuts.now c.args.mult.now c.loop-m.m-index (omega arith) in
    omega (arith, ints, c.loop-m.invariant.value, end)

pub returns-clause-within : goal.returns-clause-within
returns-clause-within c =
    let most = nonzero-take c.loop-m.m-index c.args.mult.now in
    let w = c.loop-m.invariant.within in
    record { low = omega (arith, ints, most, w.low); high = omega (arith, ints, most, w.high) }
