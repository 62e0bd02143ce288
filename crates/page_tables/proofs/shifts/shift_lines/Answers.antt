use Rattle.page_tables.specs.ShiftTable.{shift_line}
use Rattle.page_parts.proofs.ElementsLemmas.{more}
use Rattle.page_tables.proofs.shifts.shift_lines.Goals as goal

pub loop-line-preserved : goal.loop-line-preserved
loop-line-preserved c =
    more (shift_line c.args.money.now c.args.grouped c.args.named) c.args.lines.now c.loop-line.line-index c.line-item.result c.args.out.now c.loop-line.out c.shift_line.new.out
    c.loop-line-test.true c.loop-line.invariant (rw c.line-item.is at c.in_ok-shift_line.ensures)
