use Rattle.std.specs.Prelude.{pos}
use Rattle.text_certificates.specs.Written.{mult_words}
use Rattle.text_lines.proofs.WrittenLemmas.{line_more}
use Rattle.text_certificates.proofs.write.mult_lines.Goals as goal

pub loop-mult-preserved : goal.loop-mult-preserved
loop-mult-preserved c =
    line_more mult_words c.args.mults.now c.loop-mult.mult-index (record { cut = 0; value = pos 0 }) c.args.out.now c.loop-mult.out c.mult_line.new.out
    c.loop-mult-test.true c.loop-mult.invariant c.in_ok-mult_line.ensures
