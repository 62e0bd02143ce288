use Rattle.std.proofs.Common.{◌≡◌, map, drop}
use Rattle.plan_names.specs.Gathered.{has}
use Rattle.plan_names.specs.Same.{same_rule}
use Rattle.plan_names.specs.Views.{rule_of}
use Rattle.plan_names.proofs.days.has_rule.Given as goal

abbrev pub invariant-loop-other : goal.invariant-loop-other
invariant-loop-other l = has same_rule (rule_of l.rule) (map rule_of l.rules) ≡ has same_rule (rule_of l.rule) (map rule_of (drop l.other-index l.rules))
