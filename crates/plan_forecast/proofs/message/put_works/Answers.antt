use Rattle.plan_forecast.proofs.WorkTexts.{work_more}
use Rattle.plan_forecast.proofs.message.put_works.Goals as goal

pub loop-code-preserved : goal.loop-code-preserved
loop-code-preserved c =
    work_more c.args.codes.now c.loop-code.code-index c.code-item.result c.args.out.now c.loop-code.out c.put_work.new.out
    c.loop-code-test.true c.code-item.is c.loop-code.invariant c.in_ok-put_work.ensures
