use Rattle.std.proofs.Common.{◌≡◌, ◌-◌, ◌/◌}
use Rattle.plan_lines.specs.StartLines.{start_from}
use Rattle.plan_lines.proofs.starts.some_start.Given as goal

abbrev pub invariant-loop-passed : goal.invariant-loop-passed
invariant-loop-passed l = start_from l.day l.starts 0 (l.starts / l.day.minutes) ≡ start_from l.day l.starts l.passed (l.starts / l.day.minutes - l.passed)
