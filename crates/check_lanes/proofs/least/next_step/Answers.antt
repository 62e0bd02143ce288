use Rattle.check_lanes.proofs.RunningLemmas.{next_running}
use Rattle.check_lanes.proofs.least.next_step.Goals as goal

pub returns : goal.returns
returns c =
    next_running c.args.x.now c.args.y.now c.args.at c.requires.x c.requires.y c.requires.small_x c.requires.small_y
    c.lane_sums-sums.result c.lane_sums-sums.ensures.lanes c.lane_sums-sums.ensures.sums c.args.running.sums c.args.running.starts
    c.requires.whole c.requires.running
