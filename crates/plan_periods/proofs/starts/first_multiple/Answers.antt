use Rattle.plan_meaning.specs.Times.{begin_minute}
use Rattle.std.proofs.Common.{arith, sym, ◌∙◌}
use Rattle.plan_periods.proofs.FirstStarts.{is_first, none_yet, not_none}
use Rattle.plan_periods.proofs.starts.first_multiple.Goals as goal

pub returns-then-minutes_past-eq0-clause-first : goal.returns-then-minutes_past-eq0-clause-first
returns-then-minutes_past-eq0-clause-first c =
    is_first (begin_minute c.args.plan.now.day) c.args.plan.now.day.minutes c.args.starts c.loop-first.first
    (sym c.minutes_past.ensures ∙ c.if-minutes_past-eq0.true) c.loop-first.invariant c.requires.begins

pub loop-first-preserved : goal.loop-first-preserved
loop-first-preserved c =
    none_yet (begin_minute c.args.plan.now.day) c.args.plan.now.day.minutes c.args.starts c.loop-first.first
    (let early = c.requires.begins.1.0 in omega (arith, early))
    (λ e. c.if-minutes_past-eq0.false (c.minutes_past.ensures ∙ e)) c.loop-first.invariant

pub returns-clause-first : goal.returns-clause-first
returns-clause-first c =
    absurd (not_none (begin_minute c.args.plan.now.day) c.args.plan.now.day.minutes c.args.starts c.loop-first.first c.requires.some c.requires.whole c.requires.few
    (omega arith) c.loop-first.invariant c.requires.begins)
