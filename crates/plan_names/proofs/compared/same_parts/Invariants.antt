use Rattle.std.proofs.Common.{◌≡◌, drop}
use lib.Pointwise.{pointwise}
use Rattle.plan_names.specs.Same.{same_part}
use Rattle.plan_names.proofs.compared.same_parts.Given as goal

abbrev pub invariant-loop-place : goal.invariant-loop-place
invariant-loop-place l = pointwise same_part l.one l.two ≡ pointwise same_part (drop l.place l.one) (drop l.place l.two)
