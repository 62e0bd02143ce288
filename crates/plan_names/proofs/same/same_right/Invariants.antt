use Rattle.std.proofs.Common.{◌≡◌, ◌++◌, ◌+◌, ◌*◌, ◌-◌, ◌&&◌, ℕ, List, [], ◌∷◌, Bool, true, false, suc, nat_eq, nat_le, map, take, drop}
use lib.Pointwise.{pointwise}
use Rattle.plan_names.specs.Same.{same_symbol}
use Rattle.plan_names.specs.Views.{rule_of, symbol_of, kind_of}
use Rattle.plan_names.proofs.same.same_right.Given as goal

abbrev pub invariant-loop-place : goal.invariant-loop-place
invariant-loop-place l = pointwise same_symbol (map symbol_of l.one) (map symbol_of l.two) ≡ pointwise same_symbol (map symbol_of (drop l.place l.one)) (map symbol_of (drop l.place l.two))
