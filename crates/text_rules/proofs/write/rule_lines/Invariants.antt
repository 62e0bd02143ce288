use Rattle.std.proofs.Common.{◌≡◌, ◌++◌, take, map}
use Rattle.text_lines.specs.Written.{written}
use Rattle.text_rules.specs.Written.{rule_line}
use Rattle.text_rules.proofs.write.rule_lines.Given as goal

abbrev pub invariant-loop-rule : goal.invariant-loop-rule
invariant-loop-rule l = l.out ≡ l.fn.out ++ written (map (rule_line l.codes l.names) (take l.rule-index l.rules))
