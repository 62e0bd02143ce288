use Rattle.std.proofs.Common.{ℤ, ◌≤◌, ◌^◌, List, ◌++◌, take}
use Rattle.lp_rounded_prices.specs.Denominators.{IsLeastFor}
use Rattle.lp_rounded_prices.proofs.denominator.with_numbers.Given as goal

abbrev pub invariant-loop-number : goal.invariant-loop-number
invariant-loop-number l =
    (1 ≤ l.least) × (l.least ≤ 2 ^ 30)
    × ((before : List ℤ) → IsLeastFor l.kappa before l.fn.d → IsLeastFor l.kappa (before ++ take l.number-index l.numbers) l.least)
