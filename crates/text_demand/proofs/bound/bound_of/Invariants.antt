use Rattle.std.proofs.Common.{◌≡◌, drop}
use Rattle.text_demand.specs.InstanceOf.{bound_of}
use Rattle.text_demand.proofs.bound.bound_of.Given as goal

abbrev pub invariant-loop-bound : goal.invariant-loop-bound
invariant-loop-bound l = bound_of l.bounds l.code l.place l.otherwise ≡ bound_of (drop l.bound-index l.bounds) l.code l.place l.otherwise
