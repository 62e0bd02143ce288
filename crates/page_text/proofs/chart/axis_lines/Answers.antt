use Rattle.page_text.specs.Charts.{axis_line}
use Rattle.page_parts.proofs.ElementsLemmas.{more_places}
use Rattle.page_text.proofs.chart.axis_lines.Goals as goal

pub loop-count-preserved : goal.loop-count-preserved
loop-count-preserved c =
    more_places (axis_line c.args.sheet c.args.unit c.args.top) c.loop-count.count c.args.out.now c.loop-count.out c.axis_line.new.out c.loop-count.invariant c.in_ok-axis_line.ensures
