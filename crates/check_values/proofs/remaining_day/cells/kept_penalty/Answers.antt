use Rattle.model_rosters.proofs.CostBounds.{cells-le}
use Rattle.model_rosters.proofs.SoundCells.{cells_of_day}
use Rattle.check_values.proofs.remaining_day.cells.kept_penalty.Goals as goal

pub overstaffing_costs-requires-clause-cells : goal.overstaffing_costs-requires-clause-cells
overstaffing_costs-requires-clause-cells c =
    rw c.as_slice.ensures (cells_of_day c.args.instance.now.grammar c.args.instance.now.cells c.requires.sound.cells)

pub overstaffing_costs-requires-clause-few_cells : goal.overstaffing_costs-requires-clause-few_cells
overstaffing_costs-requires-clause-few_cells c = rw c.as_slice.ensures (cells-le c.args.instance.now c.requires.sound)
