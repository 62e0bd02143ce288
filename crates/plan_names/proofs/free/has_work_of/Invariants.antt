use Rattle.std.proofs.Common.{◌≡◌, ◌++◌, ◌+◌, ◌*◌, ◌-◌, ◌&&◌, ℕ, List, [], ◌∷◌, Bool, true, false, suc, nat_eq, nat_le, map, take, drop}
use Rattle.plan_names.specs.FreeCodes.{has_work_of}
use Rattle.plan_names.proofs.free.has_work_of.Given as goal

abbrev pub invariant-loop-part : goal.invariant-loop-part
invariant-loop-part l = has_work_of l.set l.parts ≡ has_work_of l.set (drop l.part-index l.parts)
