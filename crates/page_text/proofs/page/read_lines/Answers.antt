use Rattle.page_text.specs.Pages.{read_line}
use Rattle.page_parts.proofs.ElementsLemmas.{more}
use Rattle.page_text.proofs.page.read_lines.Goals as goal

pub loop-text-preserved : goal.loop-text-preserved
loop-text-preserved c =
    more read_line c.args.texts.now c.loop-text.text-index c.text-item.result c.args.out.now c.loop-text.out c.read_line.new.out
    c.loop-text-test.true c.loop-text.invariant (rw c.text-item.is at c.in_ok-read_line.ensures)
