use Rattle.std.specs.Prelude.{pos}
use Rattle.text_lines.specs.Numbers.{number_text}
use Rattle.text_lines.proofs.WrittenLemmas.{one_more}
use Rattle.text_certificates.proofs.write.numbers.Goals as goal

pub loop-value-preserved : goal.loop-value-preserved
loop-value-preserved c =
    one_more number_text c.args.values.now c.loop-value.value-index (pos 0) c.args.out.now c.loop-value.out c.signed_field.new.out c.loop-value-test.true c.loop-value.invariant c.in_ok-signed_field.ensures
