use Rattle.std.proofs.Common.{◌≡◌, ◌++◌, ◌+◌, ◌*◌, ◌-◌, ◌&&◌, ℕ, List, [], ◌∷◌, Bool, true, false, suc, nat_eq, nat_le, map, take, drop}
use Rattle.plan_laws.specs.Names.{length_rule, numbers_from}
use Rattle.plan_names.specs.Views.{rule_of, symbol_of, kind_of}
use Rattle.plan_names.proofs.stretches.length_rules.Given as goal

abbrev pub invariant-loop-more : goal.invariant-loop-more
invariant-loop-more l = map rule_of l.rules ≡ map (length_rule l.plus l.pause l.times) (numbers_from l.pause.least l.more)
