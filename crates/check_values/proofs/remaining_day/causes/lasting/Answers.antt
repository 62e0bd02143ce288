use Rattle.check_values.proofs.remaining_day.CausesLemmas.{one_more}
use Rattle.check_values.proofs.remaining_day.causes.lasting.Goals as goal

pub loop-cause-preserved : goal.loop-cause-preserved
loop-cause-preserved c =
    one_more c.args.causes.now c.loop-cause.cause-index _ c.loop-cause.out c.add_lasting.new.out
    c.loop-cause-test.true c.loop-cause.invariant c.in_ok-add_lasting.ensures
