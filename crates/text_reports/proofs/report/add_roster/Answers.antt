use Rattle.model_rosters.proofs.SoundCells.{cells_of_day}
use Rattle.text_reports.proofs.report.add_roster.Goals as goal

pub add_covers-requires-clause-cells : goal.add_covers-requires-clause-cells
add_covers-requires-clause-cells c = rw c.as_slice-cells.ensures (cells_of_day c.args.instance.now.grammar c.args.instance.now.cells c.requires.sound.cells)
