use Rattle.std.proofs.Common.{◌≤◌}
use Rattle.check_lanes.proofs.RunningLemmas.{IsBestLane}
use Rattle.check_lanes.proofs.least.least_lane.Given as goal

abbrev pub invariant-loop-lane : goal.invariant-loop-lane
invariant-loop-lane l = record {
  lane : l.lane ≤ 8;
  best : IsBestLane l.x l.y l.at l.fn.running.sums l.fn.running.starts l.lane l.best.sum l.best.place;
}
