use Rattle.check_lanes.proofs.RunningLemmas.{lanes, lane_sum}
use Rattle.check_lanes.proofs.least.lane_sums.Goals as goal

pub returns-clause-lanes : goal.returns-clause-lanes
returns-clause-lanes c = lanes c.args.x.now c.args.y.now c.args.at c.requires.x c.requires.y

pub returns-clause-sums : goal.returns-clause-sums
returns-clause-sums c =
    lane_sum c.args.x.now c.args.y.now c.args.at c.requires.x c.requires.y c.requires.small_x c.requires.small_y
