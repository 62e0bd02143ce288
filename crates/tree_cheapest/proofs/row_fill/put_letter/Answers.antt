use Rattle.std.proofs.Common.{arith}
use Rattle.std.proofs.lemmas.Int.{ints}
use Rattle.tree_cheapest.proofs.row_fill.put_letter.Goals as goal

pub returns-in_default-new-clause-fits : goal.returns-in_default-new-clause-fits
returns-in_default-new-clause-fits g c = λ le.
    let price = c.in-Some.ensures.within in
    absurd (c.in_default-new.ensures.beyond (record { low = omega (arith, ints, le, price.low, price.high); high = omega (arith, ints, le, price.low, price.high) }))
