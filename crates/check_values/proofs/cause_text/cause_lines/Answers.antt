use Rattle.check_values.proofs.CauseTexts.{causes-next}
use Rattle.check_values.proofs.cause_text.cause_lines.Goals as goal

pub loop-cause-preserved : goal.loop-cause-preserved
loop-cause-preserved c =
    causes-next c.args.instance.now c.args.shifts.now c.args.causes.now c.loop-cause.cause-index _ c.args.out.now c.loop-cause.out c.cause_line.new.out
    c.loop-cause-test.true c.loop-cause.invariant c.in_ok-cause_line.ensures
