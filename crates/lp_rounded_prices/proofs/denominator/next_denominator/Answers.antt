use Rattle.std.proofs.Common.{◌≡◌, to_z-of_z, unsigned_abs, ◌<◌, ◌*◌, ◌/◌, ◌^◌}
use Rattle.std.specs.Int.{IsGcd}
use Rattle.lp_rounded_prices.proofs.Denominators.{gcd_some, common_some, next_at, past_part_at, past_next_at}
use Rattle.lp_rounded_prices.proofs.denominator.next_denominator.Goals as goal

pub nonzero_div-part : goal.nonzero_div-part
nonzero_div-part c =
    let fk = c.ranges.kappa in
    let fx = c.ranges.number in
    let s : c.unsigned_abs-size.result ≡ unsigned_abs c.args.kappa = simp to_z-of_z at c.unsigned_abs-size.ensures.value in
    let a : c.unsigned_abs.result ≡ unsigned_abs c.args.number = simp to_z-of_z at c.unsigned_abs.ensures.value in
    gcd_some c.args.d c.args.number c.args.kappa c.unsigned_abs.result c.unsigned_abs-size.result c.gcd_unsigned.result c.requires.kappa s a c.gcd_unsigned.ensures

pub returns-then-part-gt-MOST_DENOMINATOR-clause-none : goal.returns-then-part-gt-MOST_DENOMINATOR-clause-none
returns-then-part-gt-MOST_DENOMINATOR-clause-none c =
    let fk = c.ranges.kappa in
    let fx = c.ranges.number in
    let s : c.unsigned_abs-size.result ≡ unsigned_abs c.args.kappa = simp to_z-of_z at c.unsigned_abs-size.ensures.value in
    let a : c.unsigned_abs.result ≡ unsigned_abs c.args.number = simp to_z-of_z at c.unsigned_abs.ensures.value in
    past_part_at c.args.d c.args.number c.args.kappa c.unsigned_abs.result c.unsigned_abs-size.result c.gcd_unsigned.result c.requires.kappa s a c.gcd_unsigned.ensures c.if-part-gt-MOST_DENOMINATOR.true

pub nonzero_div-next : goal.nonzero_div-next
nonzero_div-next c =
    let fk = c.ranges.kappa in
    let fx = c.ranges.number in
    let s : c.unsigned_abs-size.result ≡ unsigned_abs c.args.kappa = simp to_z-of_z at c.unsigned_abs-size.ensures.value in
    let a : c.unsigned_abs.result ≡ unsigned_abs c.args.number = simp to_z-of_z at c.unsigned_abs.ensures.value in
    common_some c.from-2.result c.args.number c.args.kappa c.unsigned_abs.result c.unsigned_abs-size.result c.gcd_unsigned.result c.requires.kappa s a c.gcd_unsigned.ensures c.gcd_unsigned-2.result c.gcd_unsigned-2.ensures

pub returns-then-next-gt-MOST_DENOMINATOR-clause-none : goal.returns-then-next-gt-MOST_DENOMINATOR-clause-none
returns-then-next-gt-MOST_DENOMINATOR-clause-none c =
    let fk = c.ranges.kappa in
    let fx = c.ranges.number in
    let s : c.unsigned_abs-size.result ≡ unsigned_abs c.args.kappa = simp to_z-of_z at c.unsigned_abs-size.ensures.value in
    let a : c.unsigned_abs.result ≡ unsigned_abs c.args.number = simp to_z-of_z at c.unsigned_abs.ensures.value in
    let g : IsGcd c.args.d (c.unsigned_abs-size.result / c.gcd_unsigned.result) c.gcd_unsigned-2.result = rw c.from-2.ensures at c.gcd_unsigned-2.ensures in
    let l : 2 ^ 30 < c.args.d / c.gcd_unsigned-2.result * (c.unsigned_abs-size.result / c.gcd_unsigned.result) = rw c.from.ensures at c.if-next-gt-MOST_DENOMINATOR.true in
    past_next_at c.args.d c.args.number c.args.kappa c.unsigned_abs.result c.unsigned_abs-size.result c.gcd_unsigned.result c.requires.kappa s a c.gcd_unsigned.ensures c.gcd_unsigned-2.result g l

pub returns-clause-next : goal.returns-clause-next
returns-clause-next c =
    let fk = c.ranges.kappa in
    let fx = c.ranges.number in
    let s : c.unsigned_abs-size.result ≡ unsigned_abs c.args.kappa = simp to_z-of_z at c.unsigned_abs-size.ensures.value in
    let a : c.unsigned_abs.result ≡ unsigned_abs c.args.number = simp to_z-of_z at c.unsigned_abs.ensures.value in
    let g : IsGcd c.args.d (c.unsigned_abs-size.result / c.gcd_unsigned.result) c.gcd_unsigned-2.result = rw c.from-2.ensures at c.gcd_unsigned-2.ensures in
    let l = c.if-next-gt-MOST_DENOMINATOR.false in
    let r = c.requires.some in
    let f = c.from.ensures in
    rw f (next_at c.args.d c.args.number c.args.kappa c.unsigned_abs.result c.unsigned_abs-size.result c.gcd_unsigned.result c.requires.kappa s a c.gcd_unsigned.ensures c.gcd_unsigned-2.result r g (rw f at l))
