use Rattle.std.proofs.Common.{to_z-of_z, SFits, rules}
use Rattle.std.specs.Int.{w128}
use Rattle.lp_rounded_prices.proofs.FloorsLemmas.{floor_is, wide_is}
use Rattle.lp_rounded_prices.proofs.floors.rounded.Goals as goal

pub returns-in-Ok-clause-floor : goal.returns-in-Ok-clause-floor
returns-in-Ok-clause-floor c =
    let fn = c.ranges.number in
    let fk = c.ranges.kappa in
    let ff : SFits w128 c.in-Ok.floor = search rules in
    let v = simp to_z-of_z at c.in-Ok.ensures.value in
    simp to_z-of_z (rw v.1 (floor_is c.args.kappa c.args.number c.args.d c.requires.kappa))

pub returns-in-Err-clause-wide : goal.returns-in-Err-clause-wide
returns-in-Err-clause-wide c =
    let fn = c.ranges.number in
    let fk = c.ranges.kappa in
    let v = simp to_z-of_z at c.in-Err.ensures.value in
    let e = simp to_z-of_z at c.in-Err.ensures.fault in
    (c.in-Err.ensures.counted, wide_is c.args.kappa c.args.number c.args.d _ c.requires.kappa v e)
