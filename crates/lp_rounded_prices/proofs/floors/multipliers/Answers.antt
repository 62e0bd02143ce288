use Rattle.std.proofs.Common.{pos, get_or, take, to_z-of_z, SFits, rules, arith, length, ◌<◌, ◌∙◌}
use Rattle.std.specs.Int.{w128}
use Rattle.std.proofs.lemmas.Result.{err_from_is_err_and}
use Rattle.lp_rounded_prices.specs.Floors.{AreMultsOf}
use Rattle.lp_rounded_prices.proofs.Multipliers.{mults_at, sign_at}
use Rattle.lp_rounded_prices.proofs.RoundFaults.{mult_at}
use Rattle.lp_rounded_prices.proofs.floors.multipliers.Goals as goal

pub multiplier-requires-clause-sign : goal.multiplier-requires-clause-sign
multiplier-requires-clause-sign c =
    let l : c.loop-index.index < length c.args.numbers.now = omega (arith, c.requires.length, c.loop-index-test.true) in
    let fx : SFits w128 (get_or c.args.numbers.now c.loop-index.index (pos 0)) = search rules in
    simp to_z-of_z (sign_at c.args.cuts.now c.args.numbers.now c.loop-index.index _ c.loop-index-test.true c.requires.signs)

pub returns-in_err-value-clause-wide : goal.returns-in_err-value-clause-wide
returns-in_err-value-clause-wide c =
    let fk = c.ranges.kappa in
    let l : c.loop-index.index < length c.args.numbers.now = omega (arith, c.requires.length, c.loop-index-test.true) in
    let fx : SFits w128 (get_or c.args.numbers.now c.loop-index.index (pos 0)) = search rules in
    let h = simp to_z-of_z at c.in_err-value.ensures.wide in
    let p = err_from_is_err_and c.from_residual.result c.from_residual.ensures.1 in
    rw (p.1, p.2) (mult_at c.args.kappa c.args.d c.args.tally.now c.multiplier.new.tally c.args.cuts.now c.args.numbers.now c.loop-index.index _ c.loop-index-test.true l _ (rw c.loop-index.invariant.0 at h))

pub loop-index-preserved : goal.loop-index-preserved
loop-index-preserved c =
    let fk = c.ranges.kappa in
    let l : c.loop-index.index < length c.args.numbers.now = omega (arith, c.requires.length, c.loop-index-test.true) in
    let fx : SFits w128 (get_or c.args.numbers.now c.loop-index.index (pos 0)) = search rules in
    let fv : SFits w128 c.in_ok-value.value = search rules in
    let f = simp to_z-of_z at c.in_ok-value.ensures.floor in
    let i : AreMultsOf c.args.kappa c.args.d (take c.loop-index.index c.args.cuts.now) (take c.loop-index.index c.args.numbers.now) c.loop-index.mults = simp to_z-of_z at c.loop-index.invariant.1 in
    let e = simp to_z-of_z at c.in_ok-add.ensures in
    let w = c.in_ok-value.ensures.within in
    simp to_z-of_z (rw e (
      c.in_ok-value.ensures.kept ∙ c.loop-index.invariant.0,
      mults_at c.args.kappa c.args.d c.args.cuts.now c.args.numbers.now c.loop-index.mults c.loop-index.index _ c.in_ok-value.value c.loop-index-test.true l i f w.0 w.1,
    ))
