use Rattle.plan_laws.specs.Names.{chosen}
use Rattle.plan_laws.specs.Turned.{has_code}
use Rattle.plan_laws.proofs.ItemByItem.{step_read}
use Rattle.plan_periods.proofs.Sets.{chosen_one}
use Rattle.plan_periods.proofs.duties.set_of.Goals as goal

pub loop-activity-preserved : goal.loop-activity-preserved
loop-activity-preserved c =
    step_read (chosen (has_code c.args.codes.now)) (chosen_one (has_code c.args.codes.now)) c.args.activities.now c.loop-activity.activity-index
    _ c.loop-activity.set c.add_chosen.new.set c.loop-activity-test.true c.loop-activity.invariant c.in_ok-add_chosen.ensures
