use Rattle.plan_meaning.specs.Times.{begin_minute}
use Rattle.plan_periods.proofs.FirstStarts.{IsNoneBefore}
use Rattle.plan_periods.proofs.starts.first_multiple.Given as goal

abbrev pub invariant-loop-first : goal.invariant-loop-first
invariant-loop-first l = IsNoneBefore (begin_minute l.plan.day) l.plan.day.minutes l.starts l.first
