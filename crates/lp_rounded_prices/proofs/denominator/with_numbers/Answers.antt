use Rattle.std.proofs.Common.{ℤ, arith, pos, to_z-of_z, SFits, get_or, rules, List, ◌++◌, take}
use Rattle.std.specs.Int.{w128}
use Rattle.lp_rounded_prices.specs.Denominators.{IsNext, IsPast, IsLeastFor}
use Rattle.lp_rounded_prices.proofs.Steps.{begun, next, past, last}
use Rattle.lp_rounded_prices.proofs.denominator.with_numbers.Goals as goal

pub loop-number-init : goal.loop-number-init
loop-number-init c = (omega arith, omega arith, λ (xs : List ℤ) h. begun _ xs c.args.numbers.now _ h)

pub loop-number-preserved : goal.loop-number-preserved
loop-number-preserved c =
    let fk = c.ranges.kappa in
    let fx : SFits w128 (get_or c.args.numbers.now c.loop-number.number-index (pos 0)) = search rules in
    let n : IsNext c.loop-number.least (get_or c.args.numbers.now c.loop-number.number-index (pos 0)) c.args.kappa c.in_ok-least.least = simp to_z-of_z at c.in_ok-least.ensures.next in
    let i : (xs : List ℤ) → IsLeastFor c.args.kappa xs c.args.d → IsLeastFor c.args.kappa (xs ++ take c.loop-number.number-index c.args.numbers.now) c.loop-number.least = simp to_z-of_z at c.loop-number.invariant.2 in
    simp to_z-of_z (n.some, n.few, λ (xs : List ℤ) h. next c.args.kappa xs c.args.numbers.now c.loop-number.number-index _ _ c.loop-number-test.true (i xs h) n)

pub returns-in_err-least-clause-none : goal.returns-in_err-least-clause-none
returns-in_err-least-clause-none c =
    let fk = c.ranges.kappa in
    let fx : SFits w128 (get_or c.args.numbers.now c.loop-number.number-index (pos 0)) = search rules in
    let n : IsPast c.loop-number.least (get_or c.args.numbers.now c.loop-number.number-index (pos 0)) c.args.kappa = simp to_z-of_z at c.in_err-least.ensures.none in
    let i : (xs : List ℤ) → IsLeastFor c.args.kappa xs c.args.d → IsLeastFor c.args.kappa (xs ++ take c.loop-number.number-index c.args.numbers.now) c.loop-number.least = simp to_z-of_z at c.loop-number.invariant.2 in
    rw c.from_residual.ensures (λ (xs : List ℤ) h. past c.args.kappa xs c.args.numbers.now c.loop-number.number-index _ c.loop-number-test.true (i xs h) n)

pub returns-clause-least : goal.returns-clause-least
returns-clause-least c =
    let fk = c.ranges.kappa in
    let i : (xs : List ℤ) → IsLeastFor c.args.kappa xs c.args.d → IsLeastFor c.args.kappa (xs ++ take c.loop-number.number-index c.args.numbers.now) c.loop-number.least = simp to_z-of_z at c.loop-number.invariant.2 in
    λ (xs : List ℤ) h. last c.args.kappa xs c.args.numbers.now c.loop-number.number-index _ c.loop-number-test.false (i xs h)
