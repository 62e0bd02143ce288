use Rattle.model_rosters.proofs.Closure.{ReachesOnlyLed-passed, ReachesSteps-passed, IsClosedBelow-passed}
use Rattle.model_rosters.proofs.unit_rules.reach_of.Goals as goal

pub loop-pivot-preserved : goal.loop-pivot-preserved
loop-pivot-preserved c =
    let old = c.loop-pivot.reach in
    let new = c.pass_through.new.reach in
    let k = c.loop-pivot.pivot in
    let passed = c.pass_through.ensures in
    record {
      led = ReachesOnlyLed-passed old new k passed c.args.grammar.now c.loop-pivot.invariant.led;
      steps = ReachesSteps-passed old new k passed c.args.grammar.now c.loop-pivot.invariant.steps;
      closed = IsClosedBelow-passed old new k passed c.loop-pivot.invariant.closed;
    }
