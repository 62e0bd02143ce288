use Rattle.plan_duties.proofs.RowLemmas.{rows_more}
use Rattle.plan_duties.proofs.stretch.rows_to.Goals as goal

pub loop-done-preserved : goal.loop-done-preserved
loop-done-preserved c =
    rows_more c.args.day.now c.args.lines.now c.args.codes.now c.loop-done._done c.loop-done.rows c.as_slice.result.now c.push.new.self c.in_ok-ends.ends
    c.loop-done.invariant c.as_slice.ensures c.in_ok-ends.ensures c.in_ok-push.ensures.ok
