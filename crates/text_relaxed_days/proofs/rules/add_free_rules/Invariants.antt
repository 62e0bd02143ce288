use Rattle.std.proofs.Common.{◌≡◌, ◌++◌, map, take}
use Rattle.text_relaxed_days.specs.FreeRules.{free_rule}
use Rattle.text_relaxed_days.proofs.rules.add_free_rules.Given as goal

abbrev pub invariant-loop-rule : goal.invariant-loop-rule
invariant-loop-rule l = l.out ≡ l.fn.out ++ map free_rule (take l.rule-index l.rules)
