use Rattle.std.proofs.Common.{arith}
use Rattle.std.proofs.lemmas.Int.{ints}
use Rattle.tree_cheapest.proofs.sums.add_part.Goals as goal

pub overflow_add-result : goal.overflow_add-result
overflow_add-result c =
    let y = rw c.in-Some-Some.is-1 at c.requires.rest in
    omega (arith, ints, y.low, y.high, c.requires.arc.low, c.requires.arc.high)

pub overflow_add-result-in-Some-Some : goal.overflow_add-result-in-Some-Some
overflow_add-result-in-Some-Some c =
    let x = rw c.in-Some-Some.is-0 at c.requires.first in
    let y = rw c.in-Some-Some.is-1 at c.requires.rest in
    omega (arith, ints, x.low, x.high, y.low, y.high, c.requires.arc.low, c.requires.arc.high)

pub returns-in-Some-Some-clause-within : goal.returns-in-Some-Some-clause-within
returns-in-Some-Some-clause-within c =
    let x = rw c.in-Some-Some.is-0 at c.requires.first in
    let y = rw c.in-Some-Some.is-1 at c.requires.rest in
    record {
      low = omega (arith, ints, x.low, x.high, y.low, y.high, c.requires.arc.low, c.requires.arc.high);
      high = omega (arith, ints, x.low, x.high, y.low, y.high, c.requires.arc.low, c.requires.arc.high);
    }
