use Rattle.std.proofs.Common.{◌≡◌, ◌++◌, ◌+◌, ◌*◌, ◌-◌, ◌&&◌, ℕ, List, [], ◌∷◌, Bool, true, false, suc, nat_eq, nat_le, map, take, drop}
use Rattle.plan_laws.specs.Names.{chosen}
use Rattle.plan_names.specs.FreeCodes.{free_of}
use Rattle.plan_names.proofs.free.free_ones.Given as goal

abbrev pub invariant-loop-activity : goal.invariant-loop-activity
invariant-loop-activity l = l.all ≡ chosen (free_of l.plan l.staff l.plus l.set) (take l.activity-index l.set)
