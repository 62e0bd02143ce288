use Rattle.plan_rules.specs.Grammars.{codes_of}
use Rattle.plan_rules.proofs.Items.{codes_one, step_behind}
use Rattle.plan_rules.proofs.codes.add_codes.Goals as goal

pub loop-activity-preserved : goal.loop-activity-preserved
loop-activity-preserved c =
    step_behind (codes_of c.args.work) (codes_one c.args.work) c.args.activities.now c.loop-activity.activity-index _ c.args.codes.now
    c.loop-activity.codes c.add_code.new.codes c.loop-activity-test.true c.loop-activity.invariant c.in_ok-add_code.ensures
