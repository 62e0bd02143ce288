use Rattle.std.proofs.Common.{◌≡◌, ◌++◌, drop}
use Rattle.plan_lines.specs.Plans.{staff_names}
use Rattle.plan_lines.proofs.finish.staff_names.Given as goal

abbrev pub invariant-loop-line : goal.invariant-loop-line
invariant-loop-line l = staff_names l.staff ≡ l.names ++ staff_names (drop l.line-index l.staff)
