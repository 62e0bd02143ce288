use Rattle.std.proofs.Common.{◌≡◌, ◌+◌, ◌≤◌, length}
use Rattle.text_old_shifts.specs.ShiftsOf.{no_shifts, shifts_from}
use Rattle.text_old_shifts.proofs.read.shifts_from.Given as goal

abbrev pub invariant-loop-item : goal.invariant-loop-item
invariant-loop-item l = record {
  value : shifts_from l.instance l.header no_shifts l.fn.lines ≡ shifts_from l.instance l.header l.said l.lines;
  few : length l.said.shifts + l.said.passed ≤ 64;
}

abbrev pub decreases-loop-item : goal.decreases-loop-item
decreases-loop-item l = length l.lines
