use Rattle.text_certificates.specs.Written.{shift_line}
use Rattle.text_lines.proofs.WrittenLemmas.{line_more}
use Rattle.text_certificates.proofs.write.shift_lines.Goals as goal

pub loop-shift-preserved : goal.loop-shift-preserved
loop-shift-preserved c =
    line_more (shift_line c.args.instance.now) c.args.shifts.now c.loop-shift.shift-index c.shift-item.result c.args.out.now c.loop-shift.out c.shift_line.new.out
    c.loop-shift-test.true c.loop-shift.invariant (rw c.shift-item.is at c.in_ok-shift_line.ensures)
