use Rattle.std.proofs.Common.{◌≡◌, ◌++◌, take}
use Rattle.check_values.proofs.group_rules.plain.add_rules.Given as goal

abbrev pub invariant-loop-rule : goal.invariant-loop-rule
invariant-loop-rule l = l.out ≡ l.fn.out ++ take l.rule-index l.rules
