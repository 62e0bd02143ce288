use Rattle.std.proofs.Common.{◌≡◌, ◌++◌, map, take}
use Rattle.plan_names.specs.Views.{kind_of, rule_of}
use Rattle.plan_laws.specs.Named.{to_rule}
use Rattle.plan_rules.specs.Grammars.{numbers_of}
use Rattle.plan_rules.proofs.numbers.add_numbered.Given as goal

abbrev pub invariant-loop-rule : goal.invariant-loop-rule
invariant-loop-rule l = l.all ≡ l.fn.all ++ map (to_rule (numbers_of l.codes (map kind_of l.names)) (kind_of l.name)) (map rule_of (take l.rule-index l.rules))
