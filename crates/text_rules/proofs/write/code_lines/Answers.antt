use Rattle.std.proofs.Common.{false}
use Rattle.text_rules.specs.Written.{code_line}
use Rattle.text_lines.proofs.WrittenLemmas.{line_more}
use Rattle.text_rules.proofs.write.code_lines.Goals as goal

pub loop-code-preserved : goal.loop-code-preserved
loop-code-preserved c = line_more code_line c.args.codes.now c.loop-code.code-index (record { byte = 0; work = false }) c.args.out.now c.loop-code.out c.code_line.new.out c.loop-code-test.true c.loop-code.invariant c.in_ok-code_line.ensures
