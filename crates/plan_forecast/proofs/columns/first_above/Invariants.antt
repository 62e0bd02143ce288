use Rattle.std.proofs.Common.{◌≡◌, drop}
use Rattle.plan_forecast.specs.Columns.{first_above}
use Rattle.plan_forecast.proofs.columns.first_above.Given as goal

abbrev pub invariant-loop-passed : goal.invariant-loop-passed
invariant-loop-passed l =
    first_above l.day l.step l.code 0 l.least l.most ≡ first_above l.day l.step l.code l.passed (drop l.passed l.least) l.most
