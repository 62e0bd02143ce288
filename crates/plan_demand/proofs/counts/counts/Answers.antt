use Rattle.std.proofs.Common.{ℕ, ◌++◌, ◌∷◌, [], get_or, ap, ◌∙◌}
use Rattle.std.specs.Prelude.{Some}
use Rattle.plan_meaning.specs.Rosters.{number_at, step_at}
use Rattle.plan_demand.proofs.DemandLemmas.{count_more}
use Rattle.plan_demand.proofs.counts.counts.Goals as goal

pub loop-passed-preserved : goal.loop-passed-preserved
loop-passed-preserved c =
    count_more (λ (passed : ℕ). number_at (Some c.args.numbers.now) c.args.other (step_at c.args.plan.now c.args.forecast.now passed))
    c.loop-passed.passed c.loop-passed.counts c.push.new.self c.loop-passed.invariant
    (c.in_ok-push.ensures.ok ∙ ap (λ (n : ℕ). c.loop-passed.counts ++ n ∷ []) (c.number_or.ensures ∙ ap (λ (k : ℕ). get_or c.args.numbers.now k c.args.other) c.step_at.ensures))
