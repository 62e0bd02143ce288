use Rattle.std.proofs.Common.{rules, arith, SFits, pos, ◌-ℤ◌, ◌<ℤ◌}
use Rattle.std.specs.Int.{w128}
use Rattle.std.proofs.lemmas.Int.{ints, to_z-of_z, fits_signed_from_abs}
use Rattle.lp_fractions.proofs.Inverses.{inverse_sound, negative_inverse_sound}
use Rattle.lp_fractions.proofs.multiplication.inverse.Goals as goal

pub from_reduced-requires : goal.from_reduced-requires
from_reduced-requires c =
    let b = c.args.b.now in
    let negative : b.num <ℤ pos 0 = omega (arith, ints, c.num.ensures) in
    let sound = negative_inverse_sound b.num b.den b.sound negative in
    let fd : SFits w128 b.den = search rules in let fn : SFits w128 b.num = search rules in
    let fx : SFits w128 (pos 0 -ℤ b.den) = fits_signed_from_abs w128 _ sound.num_range in
    let fy : SFits w128 (pos 0 -ℤ b.num) = fits_signed_from_abs w128 _ sound.den_range in
    rw (c.den.ensures.value, c.num-then-num-lt0.ensures) (simp to_z-of_z sound)

pub from_reduced-requires-else-num-lt0 : goal.from_reduced-requires-else-num-lt0
from_reduced-requires-else-num-lt0 c =
    let b = c.args.b.now in
    let positive : pos 0 <ℤ b.num = let n = c.requires in omega (arith, ints, c.num.ensures) in
    let fd : SFits w128 b.den = search rules in let fn : SFits w128 b.num = search rules in
    rw (c.den-else-num-lt0.ensures.value, c.num-else-num-lt0.ensures) (simp to_z-of_z (inverse_sound b.num b.den b.sound positive))
