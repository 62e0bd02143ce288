use Rattle.std.proofs.Common.{◌≡◌, ◌++◌, ◌+◌, ◌*◌, ◌-◌, ◌&&◌, ℕ, List, [], ◌∷◌, Bool, true, false, suc, nat_eq, nat_le, map, take, drop}
use Rattle.plan_laws.specs.Names.{some_number, agrees, may_stand}
use Rattle.plan_names.proofs.cases.line_leaves.Given as goal

abbrev pub invariant-loop-behind : goal.invariant-loop-behind
invariant-loop-behind l = some_number (λ (b : ℕ). agrees l.early (nat_eq b 0) && some_number (λ (n : ℕ). agrees l.late (nat_eq (b + n) l.plan.periods) && may_stand l.plan l.line b n) 0 (suc l.plan.periods)) 0 l.behind ≡ false
