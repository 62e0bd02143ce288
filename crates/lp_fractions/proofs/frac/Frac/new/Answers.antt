use Rattle.std.proofs.Common.{SFits, rules, unsigned_abs}
use Rattle.std.specs.Prelude.{int_div}
use Rattle.std.specs.Int.{w128, IsGcd}
use Rattle.std.proofs.lemmas.Int.{to_z-of_z, fits_signed_from_abs}
use Rattle.lp_fractions.proofs.LowestTerms.{sound_quot, same_ratio}
use Rattle.lp_fractions.proofs.frac.Frac.new.Goals as goal

pub invariant_of-result : goal.invariant_of-result
invariant_of-result c =
    let fn = c.ranges.num in let fd = c.ranges.den in
    let fg : SFits w128 c.divisor-g.result = search rules in
    let h : IsGcd (unsigned_abs c.args.num) (unsigned_abs c.args.den) (unsigned_abs c.divisor-g.result) = simp to_z-of_z at c.divisor-g.ensures.value in
    let sound = sound_quot c.args.num c.args.den c.divisor-g.result h (simp to_z-of_z at c.divisor-g.ensures.sign) c.requires.num c.requires.den c.requires.nonzero in
    let f1 : SFits w128 (int_div c.args.num c.divisor-g.result) = fits_signed_from_abs w128 _ sound.num_range in
    let f2 : SFits w128 (int_div c.args.den c.divisor-g.result) = fits_signed_from_abs w128 _ sound.den_range in
    simp to_z-of_z (record { sound = sound })

pub returns : goal.returns
returns c =
    let fn = c.ranges.num in let fd = c.ranges.den in
    let fg : SFits w128 c.divisor-g.result = search rules in
    let h : IsGcd (unsigned_abs c.args.num) (unsigned_abs c.args.den) (unsigned_abs c.divisor-g.result) = simp to_z-of_z at c.divisor-g.ensures.value in
    let sound = sound_quot c.args.num c.args.den c.divisor-g.result h (simp to_z-of_z at c.divisor-g.ensures.sign) c.requires.num c.requires.den c.requires.nonzero in
    let f1 : SFits w128 (int_div c.args.num c.divisor-g.result) = fits_signed_from_abs w128 _ sound.num_range in
    let f2 : SFits w128 (int_div c.args.den c.divisor-g.result) = fits_signed_from_abs w128 _ sound.den_range in
    simp to_z-of_z (same_ratio c.args.num c.args.den c.divisor-g.result h)
