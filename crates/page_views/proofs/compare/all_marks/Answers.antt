use Rattle.std.proofs.Common.{ℕ, true}
use Rattle.page_views.proofs.CompareLemmas.{more_marks}
use Rattle.page_views.proofs.compare.all_marks.Goals as goal

pub loop-preserved : goal.loop-preserved
loop-preserved c =
    more_marks (λ (period : ℕ). true) c.loop.counter c.loop.marks c.push.new.self c.loop.invariant c.in_ok-push.ensures.ok
