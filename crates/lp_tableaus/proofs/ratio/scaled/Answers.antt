use Rattle.std.proofs.Common.{◌^◌, arith, ◌*ℤ◌, SFits, rules, refl}
use Rattle.std.specs.Int.{w64, w128}
use Rattle.std.proofs.lemmas.Int.{to_z-of_z, fits_signed_mul}
use Rattle.lp_tableaus.proofs.ratio.scaled.Goals as goal

pub overflow_mul-result : goal.overflow_mul-result
overflow_mul-result c =
    let n : SFits w64 c.args.number = c.ranges.number in
    let e : SFits w128 c.args.entry = c.ranges.entry in
    let f : SFits w128 c.from.result = search rules in
    let first = simp to_z-of_z at c.from.ensures in
    simp to_z-of_z (rw first (fits_signed_mul w128 c.args.number c.args.entry (2 ^ 56) (2 ^ 68) c.requires.number c.requires.entry (omega arith)))

pub returns : goal.returns
returns c =
    let n : SFits w64 c.args.number = c.ranges.number in
    let e : SFits w128 c.args.entry = c.ranges.entry in
    let f : SFits w128 c.from.result = search rules in
    let first = simp to_z-of_z at c.from.ensures in
    let product : SFits w128 (c.from.result *ℤ c.args.entry) = rw first (fits_signed_mul w128 c.args.number c.args.entry (2 ^ 56) (2 ^ 68) c.requires.number c.requires.entry (omega arith)) in
    simp to_z-of_z (rw first refl)
