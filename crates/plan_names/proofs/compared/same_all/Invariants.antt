use Rattle.std.proofs.Common.{◌≡◌, drop}
use lib.Pointwise.{pointwise}
use Rattle.plan_names.specs.Same.{same_lines}
use Rattle.plan_names.proofs.compared.same_all.Given as goal

abbrev pub invariant-loop-place : goal.invariant-loop-place
invariant-loop-place l = pointwise same_lines l.one l.two ≡ pointwise same_lines (drop l.place l.one) (drop l.place l.two)
