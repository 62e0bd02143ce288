use Rattle.text_rules.specs.Written.{rule_line}
use Rattle.text_lines.proofs.WrittenLemmas.{line_more}
use Rattle.text_rules.proofs.write.rule_lines.Goals as goal

pub loop-rule-preserved : goal.loop-rule-preserved
loop-rule-preserved c = line_more (rule_line c.args.codes.now c.args.names.now) c.args.rules.now c.loop-rule.rule-index c.rule-item.result c.args.out.now c.loop-rule.out c.append_rule.new.out c.loop-rule-test.true c.loop-rule.invariant (rw c.rule-item.is at c.in_ok-append_rule.ensures)
