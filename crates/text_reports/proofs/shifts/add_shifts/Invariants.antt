use Rattle.std.proofs.Common.{◌≡◌, ◌++◌, take}
use Rattle.text_reports.proofs.shifts.add_shifts.Given as goal

abbrev pub invariant-loop-shift : goal.invariant-loop-shift
invariant-loop-shift l = l.out ≡ l.fn.out ++ take l.shift-index l.shifts
