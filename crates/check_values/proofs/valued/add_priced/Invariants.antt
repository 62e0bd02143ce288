use Rattle.std.proofs.Common.{◌≡◌, ◌++◌, take}
use Rattle.check_values.specs.Prices.{at_prices}
use Rattle.check_values.proofs.valued.add_priced.Given as goal

abbrev pub invariant-loop-place : goal.invariant-loop-place
invariant-loop-place l = l.out ≡ l.fn.out ++ at_prices (take l.place l.shifts) (take l.place l.found)
