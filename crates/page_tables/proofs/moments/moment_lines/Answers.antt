use Rattle.page_tables.specs.MomentTable.{moment_line}
use Rattle.page_parts.proofs.ElementsLemmas.{more}
use Rattle.page_tables.proofs.moments.moment_lines.Goals as goal

pub loop-line-preserved : goal.loop-line-preserved
loop-line-preserved c =
    more moment_line c.args.lines.now c.loop-line.line-index c.line-item.result c.args.out.now c.loop-line.out c.moment_line.new.out
    c.loop-line-test.true c.loop-line.invariant (rw c.line-item.is at c.in_ok-moment_line.ensures)
