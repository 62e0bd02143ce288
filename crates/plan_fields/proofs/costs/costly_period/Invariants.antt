use Rattle.std.proofs.Common.{◌≡◌, ◌-◌, ◌/◌}
use Rattle.plan_meaning.specs.Times.{day_length}
use Rattle.plan_fields.specs.Costs.{costly_from}
use Rattle.plan_fields.proofs.costs.costly_period.Given as goal

abbrev pub invariant-loop-passed : goal.invariant-loop-passed
invariant-loop-passed l = costly_from l.day l.extras l.code l.hour 0 (day_length l.day / l.day.minutes)
    ≡ costly_from l.day l.extras l.code l.hour l.passed (day_length l.day / l.day.minutes - l.passed)
