use Rattle.std.proofs.Common.{◌≡◌, ◌+◌, map, drop}
use Rattle.plan_names.specs.Views.{kind_of}
use Rattle.plan_rules.specs.Closed.{count_rules}
use Rattle.plan_rules.proofs.gather.rule_count.Given as goal

abbrev pub invariant-loop-name : goal.invariant-loop-name
invariant-loop-name l = count_rules l.plan l.staff (map kind_of l.names) ≡ l.count + count_rules l.plan l.staff (map kind_of (drop l.name-index l.names))
