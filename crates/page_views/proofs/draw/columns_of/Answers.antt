use Rattle.model_rosters.proofs.SoundCells.{cells_of_day}
use Rattle.page_views.proofs.draw.columns_of.Goals as goal

pub add_columns-requires-clause-cells : goal.add_columns-requires-clause-cells
add_columns-requires-clause-cells c = rw c.as_slice-cells.ensures (cells_of_day c.args.instance.now.grammar c.args.instance.now.cells c.requires.sound.cells)
