use Rattle.std.proofs.Common.{◌≡◌, arith, SFits, rules, pos, unsigned_abs, ◌-ℤ◌, subst, inl, inr}
use Rattle.std.specs.Int.{w128, IsGcd}
use Rattle.std.proofs.lemmas.Int.{ints, to_z-of_z}
use Rattle.lp_fractions.proofs.LowestTerms.{gcd_positive, abs_positive}
use Rattle.lp_fractions.proofs.frac.divisor.Goals as goal

pub returns-then-den-lt0-clause-value : goal.returns-then-den-lt0-clause-value
returns-then-den-lt0-clause-value c =
    let fn = c.ranges.num in let fd = c.ranges.den in
    let fg : SFits w128 c.gcd-g.result = search rules in
    let h : IsGcd (unsigned_abs c.args.num) (unsigned_abs c.args.den) (unsigned_abs c.gcd-g.result) = simp to_z-of_z at c.gcd-g.ensures.value in
    let fm : SFits w128 (pos 0 -ℤ c.gcd-g.result) = omega (arith, ints) in
    let e : unsigned_abs c.gcd-g.result ≡ unsigned_abs (pos 0 -ℤ c.gcd-g.result) = omega (arith, ints) in
    simp to_z-of_z (subst (λ g. IsGcd (unsigned_abs c.args.num) (unsigned_abs c.args.den) g) e h)

pub returns-then-den-lt0-clause-sign : goal.returns-then-den-lt0-clause-sign
returns-then-den-lt0-clause-sign c =
    let fn = c.ranges.num in let fd = c.ranges.den in
    let fg : SFits w128 c.gcd-g.result = search rules in
    let h : IsGcd (unsigned_abs c.args.num) (unsigned_abs c.args.den) (unsigned_abs c.gcd-g.result) = simp to_z-of_z at c.gcd-g.ensures.value in
    let p = gcd_positive _ _ _ h (abs_positive c.args.den c.requires.nonzero) in
    inr (omega (arith, ints), omega (arith, ints))

pub returns-else-den-lt0-clause-value : goal.returns-else-den-lt0-clause-value
returns-else-den-lt0-clause-value c =
    let fn = c.ranges.num in let fd = c.ranges.den in
    let fg : SFits w128 c.gcd-g.result = search rules in
    simp to_z-of_z (simp to_z-of_z at c.gcd-g.ensures.value)

pub returns-else-den-lt0-clause-sign : goal.returns-else-den-lt0-clause-sign
returns-else-den-lt0-clause-sign c =
    let fn = c.ranges.num in let fd = c.ranges.den in
    let fg : SFits w128 c.gcd-g.result = search rules in
    let h : IsGcd (unsigned_abs c.args.num) (unsigned_abs c.args.den) (unsigned_abs c.gcd-g.result) = simp to_z-of_z at c.gcd-g.ensures.value in
    let q = abs_positive c.args.den c.requires.nonzero in
    let p = gcd_positive _ _ _ h q in
    inl (omega (arith, ints), omega (arith, ints))
