use Rattle.std.proofs.Common.{length, ◌≤◌}
use Rattle.check_lanes.specs.LeastSum.{IsLeastSum}
use Rattle.check_lanes.proofs.least.least_from.Given as goal

abbrev pub invariant-loop-place : goal.invariant-loop-place
invariant-loop-place l = record {
  within : l.place ≤ length l.x;
  found : IsLeastSum l.x l.y l.place l.best.sum l.best.place;
}
