use Rattle.std.proofs.Common.{◌≡◌, ◌++◌, ◌+◌, ◌*◌, ◌-◌, ◌&&◌, ℕ, List, [], ◌∷◌, Bool, true, false, suc, nat_eq, nat_le, map, take, drop}
use Rattle.plan_laws.specs.Names.{some_number}
use Rattle.plan_names.proofs.cases.is_start.Given as goal

abbrev pub invariant-loop-steps : goal.invariant-loop-steps
invariant-loop-steps l = some_number (λ (q : ℕ). nat_eq l.behind (l.plan.first_start + q * l.plan.starts)) 0 l.steps ≡ false
