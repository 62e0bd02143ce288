use Rattle.page_rosters.specs.AxisTimes.{axis_time}
use Rattle.page_rosters.proofs.PlaceLemmas.{texts_more}
use Rattle.page_rosters.proofs.axis.begin_times.Goals as goal

pub loop-place-preserved : goal.loop-place-preserved
loop-place-preserved c =
    texts_more (axis_time c.args.clock c.args.periods) c.loop-place.place c.loop-place.times c.push.new.self c.loop-place.invariant (rw c.in_ok-axis_time.ensures at c.in_ok-push.ensures.ok)
