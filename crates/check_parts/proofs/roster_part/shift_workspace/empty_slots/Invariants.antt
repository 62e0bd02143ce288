use Rattle.std.proofs.Common.{◌≤◌, ◌-◌, length}
use Rattle.check_parts.proofs.roster_part.shift_workspace.empty_slots.Given as goal

abbrev pub invariant-loop-alloc : goal.invariant-loop-alloc
invariant-loop-alloc l = length l.slots.items ≤ 64

abbrev pub decreases-loop-alloc : goal.decreases-loop-alloc
decreases-loop-alloc l = 64 - length l.slots.items
