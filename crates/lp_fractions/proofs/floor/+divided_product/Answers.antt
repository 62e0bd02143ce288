use Rattle.std.proofs.Common.{◌≡◌, ◌*◌, ◌+◌}
use Rattle.lp_fractions.proofs.Floors.{doubled_even, doubled_odd, quotient_bound}
use Rattle.lp_fractions.proofs.floor.+divided_product.Goals as goal
use Rattle.lp_fractions.proofs.floor.+divided_product.Goals.{then-d-eq0-2, else-d-eq0-2}

pub returns-clause-value : goal.returns-clause-value
returns-clause-value t c =
    elim c.if-d-eq0-2.branch [
      | then-d-eq0-2 w ↦ doubled_even c.args.value c.args.d _ _ _ _ _ c.args.den c.divided_product-quotient.ensures.value c.doubled.ensures.value w.if-d-eq0-2.true w.more-is
      | else-d-eq0-2 w ↦ doubled_odd c.args.value c.args.d _ _ _ _ _ c.args.den c.divided_product-quotient.ensures.value c.doubled.ensures.value w.if-d-eq0-2.false w.more-is
    ]

pub returns-clause-bound : goal.returns-clause-bound
returns-clause-bound t c =
    let value : c.doubled.result.0 * c.args.den + c.doubled.result.1 ≡ c.args.value * c.args.d =
    elim c.if-d-eq0-2.branch [
      | then-d-eq0-2 w ↦ doubled_even c.args.value c.args.d _ _ _ _ _ c.args.den c.divided_product-quotient.ensures.value c.doubled.ensures.value w.if-d-eq0-2.true w.more-is
      | else-d-eq0-2 w ↦ doubled_odd c.args.value c.args.d _ _ _ _ _ c.args.den c.divided_product-quotient.ensures.value c.doubled.ensures.value w.if-d-eq0-2.false w.more-is
    ] in
    quotient_bound c.args.value c.args.d c.doubled.result.0 c.doubled.result.1 c.args.den value c.requires.value
