use Rattle.std.proofs.Common.{◌≡◌, ◌++◌, ◌+◌, ◌*◌, ◌-◌, ◌&&◌, ℕ, List, [], ◌∷◌, Bool, true, false, suc, cond, nat_eq, nat_le, map, arith, sym, ap, ◌∙◌, subst}
use Rattle.plan_laws.proofs.ItemByItem.{step_read}
use Rattle.plan_laws.specs.declared.period_plan.Activity.{Activity}
use Rattle.plan_laws.specs.Names.{chosen, is_bound}
use Rattle.plan_names.specs.FreeCodes.{free_of}
use Rattle.plan_names.proofs.Items.{chosen_one}
use Rattle.plan_names.proofs.free.bound_ones.Goals as goal

pub loop-activity-preserved : goal.loop-activity-preserved
loop-activity-preserved c =
    let t = is_bound (free_of c.args.plan.now c.args.staff.now) c.args.plus c.args.set.now in
    step_read (chosen t) (chosen_one t) c.args.some.now c.loop-activity.activity-index _ c.loop-activity.all c.add_bound.new.all
    c.loop-activity-test.true c.loop-activity.invariant c.in_ok-add_bound.ensures
