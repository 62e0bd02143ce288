use Rattle.std.proofs.Common.{◌≡◌, ◌++◌, ◌+◌, ◌*◌, ◌-◌, ◌&&◌, ℕ, List, [], ◌∷◌, Bool, true, false, suc, nat_eq, nat_le, map, take, drop}
use Rattle.plan_laws.specs.Names.{some_number, agrees, may_stand}
use Rattle.plan_names.proofs.cases.leaves_behind.Given as goal

abbrev pub invariant-loop-length : goal.invariant-loop-length
invariant-loop-length l = some_number (λ (n : ℕ). agrees l.late (nat_eq (l.behind + n) l.plan.periods) && may_stand l.plan l.line l.behind n) 0 l.length ≡ false
