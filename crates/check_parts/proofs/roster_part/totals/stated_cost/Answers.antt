use Rattle.model_rosters.proofs.CostBounds.{cells-le}
use Rattle.model_rosters.proofs.SoundCells.{cells_of_day}
use Rattle.check_parts.proofs.roster_part.totals.stated_cost.Goals as goal

pub penalties-requires-clause-cells : goal.penalties-requires-clause-cells
penalties-requires-clause-cells c = rw c.as_slice.ensures (cells_of_day c.args.instance.now.grammar c.args.instance.now.cells c.requires.sound.cells)

pub penalties-requires-clause-few_cells : goal.penalties-requires-clause-few_cells
penalties-requires-clause-few_cells c = rw c.as_slice.ensures (cells-le c.args.instance.now c.requires.sound)
