use Rattle.plan_demand.proofs.DemandLemmas.{group_more}
use Rattle.plan_demand.proofs.teams.groups.Goals as goal

pub loop-line-preserved : goal.loop-line-preserved
loop-line-preserved c =
    group_more c.args.grammar.now c.args.staff.now c.loop-line.line-index c.line-item.result c.loop-line.groups c.group.new.groups
    c.loop-line-test.true c.line-item.is c.loop-line.invariant c.in_ok-group.ensures
