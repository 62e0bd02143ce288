use Rattle.std.proofs.Common.{◌≡◌, drop}
use Rattle.plan_lines.specs.Plans.{staffed}
use Rattle.plan_lines.proofs.finish.staffed.Given as goal

abbrev pub invariant-loop-duty : goal.invariant-loop-duty
invariant-loop-duty l = staffed l.staff l.duties ≡ staffed l.staff (drop l.duty-index l.duties)
