use Rattle.std.proofs.Common.{◌≡◌, ◌++◌}
use Rattle.std.specs.List.{flat_map}
use Rattle.page_parts.specs.Elements.{places}
use Rattle.page_rosters.specs.MomentLines.{moment_at, moment_behind}
use Rattle.page_rosters.proofs.counts.moments_in.Given as goal

abbrev pub invariant-loop-place : goal.invariant-loop-place
invariant-loop-place l = l.lines ≡ moment_at l.clock l.stretches 0 ++ flat_map (moment_behind l.clock l.stretches) (places l.place)
