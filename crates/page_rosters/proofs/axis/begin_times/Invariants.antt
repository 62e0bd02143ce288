use Rattle.std.proofs.Common.{◌≡◌, map}
use Rattle.page_parts.specs.Elements.{places}
use Rattle.page_rosters.specs.AxisTimes.{axis_time}
use Rattle.page_rosters.proofs.axis.begin_times.Given as goal

abbrev pub invariant-loop-place : goal.invariant-loop-place
invariant-loop-place l = l.times ≡ map (axis_time l.clock l.periods) (places l.place)
