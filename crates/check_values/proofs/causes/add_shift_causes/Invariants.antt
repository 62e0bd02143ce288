use Rattle.std.proofs.Common.{◌≡◌, ◌++◌, take}
use Rattle.check_values.specs.Causes.{shift_causes}
use Rattle.check_values.proofs.causes.add_shift_causes.Given as goal

abbrev pub invariant-loop-place : goal.invariant-loop-place
invariant-loop-place l = l.out ≡ l.fn.out ++ shift_causes 1 (take l.place l.found)
