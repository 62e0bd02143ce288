use Rattle.std.proofs.Common.{◌≡◌, ◌≤◌, ◌+◌, ◌*◌, drop}
use Rattle.plan_lines.specs.StaffLines.{employees}
use Rattle.plan_lines.proofs.staff.employees.Given as goal

abbrev pub invariant-loop-line : goal.invariant-loop-line
invariant-loop-line l = (l.sum + employees (drop l.line-index l.staff) ≡ employees l.staff) × (l.sum ≤ l.line-index * 255)
