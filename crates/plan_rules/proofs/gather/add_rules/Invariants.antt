use Rattle.std.proofs.Common.{◌≡◌, map, take}
use Rattle.plan_names.specs.Same.{same}
use Rattle.plan_names.specs.Views.{kind_of, rule_of}
use Rattle.plan_names.specs.Gathered.{with_all}
use Rattle.plan_rules.specs.Closed.{names_of_rules}
use Rattle.plan_rules.proofs.gather.add_rules.Given as goal

abbrev pub invariant-loop-rule : goal.invariant-loop-rule
invariant-loop-rule l = map kind_of l.names ≡ with_all same (map kind_of l.fn.names) (names_of_rules (map rule_of (take l.rule-index l.rules)))
