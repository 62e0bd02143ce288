use Rattle.std.proofs.Common.{◌≡◌, ℕ, map}
use Rattle.plan_meaning.specs.Rosters.{number_at, numbers_from, step_at}
use Rattle.std.specs.Prelude.{Some}
use Rattle.plan_demand.proofs.counts.counts.Given as goal

abbrev pub invariant-loop-passed : goal.invariant-loop-passed
invariant-loop-passed l =
    l.counts ≡ map (λ (passed : ℕ). number_at (Some l.numbers) l.other (step_at l.plan l.forecast passed)) (numbers_from 0 l.passed)
