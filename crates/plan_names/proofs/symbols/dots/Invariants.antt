use Rattle.std.proofs.Common.{◌≡◌, ◌++◌, ◌+◌, ◌*◌, ◌-◌, ◌&&◌, ℕ, List, [], ◌∷◌, Bool, true, false, suc, nat_eq, nat_le, map, take, drop}
use Rattle.plan_laws.specs.Names.{dots}
use Rattle.plan_names.specs.Views.{rule_of, symbol_of, kind_of}
use Rattle.plan_names.proofs.symbols.dots.Given as goal

abbrev pub invariant-loop-place : goal.invariant-loop-place
invariant-loop-place l = map symbol_of l.right ≡ dots l.plan l.place
