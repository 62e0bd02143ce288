use Rattle.page_text.specs.RosterChart.{marked_cell}
use Rattle.page_parts.proofs.ElementsLemmas.{more_places}
use Rattle.page_text.proofs.roster_chart.cells.Goals as goal

pub loop-place-preserved : goal.loop-place-preserved
loop-place-preserved c = more_places (marked_cell c.args.sheet c.args.codes.now c.args.off c.args.top c.args.row.now) c.loop-place.place c.args.out.now c.loop-place.out c.marked_cell.new.out c.loop-place.invariant c.in_ok-marked_cell.ensures
