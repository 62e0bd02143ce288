use Rattle.std.proofs.Common.{◌≡◌, ◌++◌, drop}
use Rattle.plan_by_names.specs.ByNames.{by_staff}
use Rattle.plan_by_names.proofs.lines.by_staff.Given as goal

abbrev pub invariant-loop-line : goal.invariant-loop-line
invariant-loop-line l = l.all ++ by_staff l.plan (drop l.line-index l.plan.staff) ≡ by_staff l.plan l.plan.staff
