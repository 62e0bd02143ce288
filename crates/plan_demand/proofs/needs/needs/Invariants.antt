use Rattle.std.proofs.Common.{◌≡◌, take}
use Rattle.plan_meaning.specs.Rosters.{asked}
use Rattle.plan_demand.specs.Demands.{needs_by}
use Rattle.plan_demand.proofs.needs.needs.Given as goal

abbrev pub invariant-loop-place : goal.invariant-loop-place
invariant-loop-place l =
    l.needs ≡ needs_by l.grammar l.plan l.forecast (asked (take l.place l.plan.needs) (take l.place l.forecast.columns))
