use Rattle.std.proofs.Common.{◌≡◌, ◌++◌, ◌+◌, ◌*◌, ◌-◌, ◌&&◌, ℕ, List, [], ◌∷◌, Bool, true, false, suc, cond, nat_eq, nat_le, map, arith, sym, ap, ◌∙◌, subst}
use Rattle.plan_laws.proofs.ItemByItem.{step_read}
use Rattle.plan_laws.specs.Names.{others}
use Rattle.plan_names.proofs.Items.{others_one}
use Rattle.plan_names.proofs.free.others.Goals as goal

pub loop-activity-preserved : goal.loop-activity-preserved
loop-activity-preserved c =
    step_read (others c.args.one) (others_one c.args.one) c.args.set.now c.loop-activity.activity-index _ c.loop-activity.all c.add_other.new.all
    c.loop-activity-test.true c.loop-activity.invariant c.in_ok-add_other.ensures
