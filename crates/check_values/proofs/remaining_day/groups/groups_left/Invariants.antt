use Rattle.std.proofs.Common.{◌≡◌, take}
use Rattle.check_certificates.specs.RosterCauses.{duties}
use Rattle.check_values.specs.remaining_day.Remaining.{groups_left}
use Rattle.check_values.proofs.remaining_day.groups.groups_left.Given as goal

abbrev pub invariant-loop-place : goal.invariant-loop-place
invariant-loop-place l = l.left ≡ groups_left 1 (duties l.shifts) (take l.place l.groups)
