use Rattle.std.proofs.Common.{◌≡◌, ◌++◌, ◌+◌, ◌*◌, ◌-◌, ◌&&◌, ℕ, List, [], ◌∷◌, Bool, true, false, suc, nat_eq, nat_le, map, take, drop}
use Rattle.plan_laws.specs.Names.{day_rule}
use Rattle.plan_names.specs.Views.{rule_of, symbol_of, kind_of}
use Rattle.plan_names.proofs.days.any_day_rules.Given as goal

abbrev pub invariant-loop-named : goal.invariant-loop-named
invariant-loop-named l = map rule_of l.rules ≡ map day_rule (take l.named-index l.staff)
