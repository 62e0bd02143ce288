use Rattle.std.proofs.Common.{arith}
use Rattle.model_rosters.proofs.ReachBits.{HasPassed-more}
use Rattle.model_rosters.proofs.unit_rules.pass_through.Goals as goal

pub loop-row-preserved : goal.loop-row-preserved
loop-row-preserved c =
    HasPassed-more c.args.reach.now c.loop-row.reach c.args.pivot c.loop-row.row-index c.extended.result c.loop-row.invariant (omega arith) c.extended.ensures
