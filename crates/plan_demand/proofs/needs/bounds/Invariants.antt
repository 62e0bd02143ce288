use Rattle.std.proofs.Common.{◌≡◌, take}
use Rattle.plan_meaning.specs.Rosters.{asked}
use Rattle.plan_demand.specs.Demands.{bounds_by}
use Rattle.plan_demand.proofs.needs.bounds.Given as goal

abbrev pub invariant-loop-place : goal.invariant-loop-place
invariant-loop-place l =
    l.bounds ≡ bounds_by l.grammar l.plan l.forecast l.side (asked (take l.place l.plan.needs) (take l.place l.forecast.columns))
