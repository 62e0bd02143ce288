use Rattle.std.proofs.Common.{◌≡◌, ◌++◌, ◌+◌, ◌*◌, ◌-◌, ◌&&◌, ℕ, List, [], ◌∷◌, Bool, true, false, suc, nat_eq, nat_le, map, take, drop}
use Rattle.plan_names.specs.FreeCodes.{longest_of}
use Rattle.plan_names.proofs.free.longest_of.Given as goal

abbrev pub invariant-loop-named : goal.invariant-loop-named
invariant-loop-named l = longest_of 0 l.plus l.set l.staff ≡ longest_of l.most l.plus l.set (drop l.named-index l.staff)
