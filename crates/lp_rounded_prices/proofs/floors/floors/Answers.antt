use Rattle.std.proofs.Common.{pos, get_or, take, to_z-of_z, SFits, rules, ◌∙◌, ◌^◌}
use Rattle.std.specs.Int.{w128}
use Rattle.std.proofs.lemmas.List.Elements.{All-push}
use Rattle.std.proofs.lemmas.Result.{err_from_is_err_and}
use Rattle.model_rosters.specs.Sums.{Within}
use Rattle.law_bounds.specs.master_laws.Rounding.{AreFloors}
use Rattle.lp_rounded_prices.proofs.Multipliers.{floors_step}
use Rattle.lp_rounded_prices.proofs.RoundFaults.{cell_at}
use Rattle.lp_rounded_prices.proofs.floors.floors.Goals as goal

pub returns-in_err-floor-clause-wide : goal.returns-in_err-floor-clause-wide
returns-in_err-floor-clause-wide c =
    let fk = c.ranges.kappa in
    let fx : SFits w128 (get_or c.args.numbers.now c.loop-number.number-index (pos 0)) = search rules in
    let h = simp to_z-of_z at c.in_err-floor.ensures.wide in
    let p = err_from_is_err_and c.from_residual.result c.from_residual.ensures.1 in
    rw (p.1, p.2) (cell_at c.args.kappa c.args.d c.args.tally.now c.rounded.new.tally c.args.numbers.now c.loop-number.number-index c.loop-number-test.true _ (rw c.loop-number.invariant.0 at h))

pub loop-number-preserved : goal.loop-number-preserved
loop-number-preserved c =
    let fk = c.ranges.kappa in
    let fx : SFits w128 (get_or c.args.numbers.now c.loop-number.number-index (pos 0)) = search rules in
    let h = simp to_z-of_z at c.in_ok-floor.ensures.floor in
    let i : AreFloors c.args.kappa c.args.d (take c.loop-number.number-index c.args.numbers.now) c.loop-number.floors = simp to_z-of_z at c.loop-number.invariant.1 in
    let ff : SFits w128 c.in_ok-floor.floor = search rules in
    let e = simp to_z-of_z at c.in_ok-push.ensures.ok in
    simp to_z-of_z (rw e (
      c.in_ok-floor.ensures.kept ∙ c.loop-number.invariant.0,
      floors_step c.args.kappa c.args.d c.args.numbers.now c.loop-number.floors c.loop-number.number-index c.in_ok-floor.floor c.loop-number-test.true i h,
      All-push (Within (2 ^ 80)) c.loop-number.floors c.in_ok-floor.floor c.loop-number.invariant.2 c.in_ok-floor.ensures.within,
    ))
