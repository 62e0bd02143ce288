use Rattle.std.proofs.Common.{length, ◌-◌}
use Rattle.check_lanes.proofs.Lanes.{AreCountedTo}
use Rattle.check_lanes.proofs.counting.add_matches.Given as goal

abbrev pub invariant-lanes : goal.invariant-lanes
invariant-lanes l = AreCountedTo l.fn.counts l.word l.byte l.at l.counts

abbrev pub decreases-lanes : goal.decreases-lanes
decreases-lanes l = length l.counts - l.at

abbrev pub invariant-loop-place : goal.invariant-loop-place
invariant-loop-place l = AreCountedTo l.fn.counts l.word l.byte l.place l.counts
