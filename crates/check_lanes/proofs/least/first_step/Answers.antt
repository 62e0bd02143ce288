use Rattle.std.proofs.Common.{refl}
use Rattle.check_lanes.proofs.RunningLemmas.{first_running}
use Rattle.check_lanes.proofs.least.first_step.Goals as goal

pub returns : goal.returns
returns c =
    first_running c.args.x.now c.args.y.now 0 c.requires.x c.requires.y c.requires.small_x c.requires.small_y
    c.lane_sums-sums.result c.lane_sums-sums.ensures.lanes c.lane_sums-sums.ensures.sums refl
