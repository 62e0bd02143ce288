use Rattle.std.proofs.Common.{◌≡◌, take}
use Rattle.check_parts.proofs.roster_part.shift_workspace.ShiftWorkspace.keep_all.Given as goal

abbrev pub invariant-loop-shift : goal.invariant-loop-shift
invariant-loop-shift l = l.self ≡ take l.shift-index l.shifts
