use Rattle.std.proofs.Common.{◌≡◌, take, map}
use Rattle.check_certificates.specs.RosterCauses.{duties}
use Rattle.check_values.specs.remaining_day.Remaining.{cell_left}
use Rattle.check_values.proofs.remaining_day.cells.cells_left.Given as goal

abbrev pub invariant-loop-cell : goal.invariant-loop-cell
invariant-loop-cell l = l.left ≡ map (cell_left l.grammar (duties l.shifts)) (take l.cell-index l.cells)
