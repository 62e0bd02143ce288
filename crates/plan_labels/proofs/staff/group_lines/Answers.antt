use Rattle.plan_labels.proofs.LabelLemmas.{group_more}
use Rattle.plan_labels.proofs.staff.group_lines.Goals as goal

pub loop-line-preserved : goal.loop-line-preserved
loop-line-preserved c =
    group_more c.args.staff.now c.loop-line.line-index c.line-item.result c.args.out.now c.loop-line.out c.group_line.new.out
    c.loop-line-test.true c.line-item.is c.loop-line.invariant c.in_ok-group_line.ensures
