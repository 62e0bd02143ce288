use Rattle.std.proofs.Common.{◌≡◌, ◌++◌, ◌+◌, ◌*◌, ◌-◌, ◌&&◌, ℕ, List, [], ◌∷◌, Bool, true, false, suc, nat_eq, nat_le, map, take, drop}
use Rattle.plan_names.specs.FreeCodes.{longest_from}
use Rattle.plan_names.proofs.free.longest_from.Given as goal

abbrev pub invariant-loop-line : goal.invariant-loop-line
invariant-loop-line l = longest_from l.least l.plus l.set l.lines ≡ longest_from l.most l.plus l.set (drop l.line-index l.lines)
