use Rattle.page_views.specs.Compared.{differs_in}
use Rattle.page_views.proofs.CompareLemmas.{more_marks}
use Rattle.page_views.proofs.compare.pair_marks.Goals as goal

pub loop-period-preserved : goal.loop-period-preserved
loop-period-preserved c =
    more_marks (differs_in c.args.before.now c.args.after.now) c.loop-period.period c.loop-period.marks c.push.new.self c.loop-period.invariant (rw c.differs_in.ensures at c.in_ok-push.ensures.ok)
