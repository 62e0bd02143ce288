use Rattle.std.proofs.Common.{◌≡◌, take}
use Rattle.text_old_shifts.specs.Fitting.{fitting}
use Rattle.text_old_shifts.proofs.whole.fitting.Given as goal

abbrev pub invariant-loop-shift : goal.invariant-loop-shift
invariant-loop-shift l = l.out ≡ fitting l.periods (take l.shift-index l.shifts)
