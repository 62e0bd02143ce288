use Rattle.std.proofs.Common.{rules, ◌≡◌, ◌*◌, ◌/◌, ◌^◌, ◌<◌, arith}
use Rattle.search_arc_weights.specs.Denominators.{IsPast}
use Rattle.search_arc_weights.proofs.Multiples.{gcd_some, past_at, multiple_at}
use Rattle.search_arc_weights.proofs.denominator.common_multiple.Goals as goal

pub nonzero_div-part : goal.nonzero_div-part
nonzero_div-part c = gcd_some c.args.d c.args.n c.gcd_unsigned.result c.requires.d c.requires.n c.gcd_unsigned.ensures

pub returns-in_err-multiple-clause-past : goal.returns-in_err-multiple-clause-past
returns-in_err-multiple-clause-past c =
    let p : 2 ^ 100 < c.args.n / c.gcd_unsigned.result * c.args.d → IsPast c.args.d c.args.n = past_at c.args.d c.args.n c.gcd_unsigned.result c.requires.d c.requires.n c.gcd_unsigned.ensures in
    let k = c.in_err-multiple.ensures in
    search rules

pub returns-then-multiple-gt-MOST_DENOMINATOR-clause-past : goal.returns-then-multiple-gt-MOST_DENOMINATOR-clause-past
returns-then-multiple-gt-MOST_DENOMINATOR-clause-past c =
    let e : c.in_ok-multiple.multiple ≡ c.args.n / c.gcd_unsigned.result * c.args.d = search rules in
    past_at c.args.d c.args.n c.gcd_unsigned.result c.requires.d c.requires.n c.gcd_unsigned.ensures (omega (arith, e, c.if-multiple-gt-MOST_DENOMINATOR.true))

pub returns-clause-multiple : goal.returns-clause-multiple
returns-clause-multiple c =
    let e : c.in_ok-multiple.multiple ≡ c.args.n / c.gcd_unsigned.result * c.args.d = search rules in
    rw e (multiple_at c.args.d c.args.n c.gcd_unsigned.result c.requires.d c.requires.n c.gcd_unsigned.ensures (omega (arith, e, c.if-multiple-gt-MOST_DENOMINATOR.false)))
