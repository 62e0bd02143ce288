use Rattle.std.proofs.Common.{arith, ◌^◌, unsigned_abs}
use Rattle.std.specs.Int.{IsGcd, w128}
use Rattle.std.proofs.lemmas.Int.{ints, to_z_pos, to_z-of_z}
use Rattle.lp_fractions.proofs.Gcds.{gcd_below}
use Rattle.lp_fractions.proofs.divisors.gcd.Goals as goal

pub overflow_cast-result : goal.overflow_cast-result
overflow_cast-result c =
    let fa = c.ranges.a in
    let fb = c.ranges.b in
    let divides : IsGcd (unsigned_abs c.args.a) (unsigned_abs c.args.b) c.gcd_unsigned.result = simp (c.unsigned_abs.ensures.value, c.unsigned_abs-2.ensures.value, to_z-of_z) at c.gcd_unsigned.ensures in
    let small = gcd_below (unsigned_abs c.args.a) (unsigned_abs c.args.b) c.gcd_unsigned.result (2 ^ 127) c.requires.a c.requires.b divides in
    record { sfits = small }

pub returns-clause-value : goal.returns-clause-value
returns-clause-value c =
    let fa = c.ranges.a in
    let fb = c.ranges.b in
    let divides : IsGcd (unsigned_abs c.args.a) (unsigned_abs c.args.b) c.gcd_unsigned.result = simp (c.unsigned_abs.ensures.value, c.unsigned_abs-2.ensures.value, to_z-of_z) at c.gcd_unsigned.ensures in
    let small = gcd_below (unsigned_abs c.args.a) (unsigned_abs c.args.b) c.gcd_unsigned.result (2 ^ 127) c.requires.a c.requires.b divides in
    rw (to_z_pos w128 c.gcd_unsigned.result small) divides

pub returns-clause-sign : goal.returns-clause-sign
returns-clause-sign c =
    let fa = c.ranges.a in
    let fb = c.ranges.b in
    let divides : IsGcd (unsigned_abs c.args.a) (unsigned_abs c.args.b) c.gcd_unsigned.result = simp (c.unsigned_abs.ensures.value, c.unsigned_abs-2.ensures.value, to_z-of_z) at c.gcd_unsigned.ensures in
    let small = gcd_below (unsigned_abs c.args.a) (unsigned_abs c.args.b) c.gcd_unsigned.result (2 ^ 127) c.requires.a c.requires.b divides in
    omega (arith, ints, small)
