use Rattle.std.proofs.Common.{◌≡◌, ◌++◌, Some, drop, map}
use Rattle.plan_laws.specs.Turned.{named_lines, turned_duty, turned_lines}
use Rattle.plan_by_names.proofs.lines.lines_of.Given as goal

abbrev pub invariant-loop-duty : goal.invariant-loop-duty
invariant-loop-duty l =
    l.lines ++ map (turned_duty l.plan) (named_lines (Some l.name) (drop l.duty-index l.plan.duties)) ≡ turned_lines l.plan (Some l.name)
