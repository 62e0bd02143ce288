use Rattle.std.proofs.Common.{◌≡◌, drop}
use Rattle.page_labels.specs.Shifts.{refused_shift}
use Rattle.page_labels.proofs.shift.refused_shift.Given as goal

abbrev pub invariant-loop-label : goal.invariant-loop-label
invariant-loop-label l = refused_shift l.labels l.shifts ≡ refused_shift (drop l.label-index l.labels) l.shifts
