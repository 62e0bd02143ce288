use Rattle.std.proofs.Common.{◌≡◌, ◌≤◌, ◌-◌, ◌%◌, length}
use Rattle.check_lanes.specs.Running.{AreRunning}
use Rattle.check_lanes.proofs.least.least_by_lanes.Given as goal

abbrev pub invariant-steps : goal.invariant-steps
invariant-steps l = record {
  within : l.at ≤ length l.x;
  whole : l.at % 8 ≡ 0;
  running : AreRunning l.x l.y l.at l.running.sums l.running.starts;
}

abbrev pub decreases-steps : goal.decreases-steps
decreases-steps l = length l.x - l.at
