use Rattle.std.proofs.Common.{◌≡◌, map, take}
use Rattle.text_relaxed_days.specs.Relaxed.{relaxed_cell}
use Rattle.text_relaxed_days.proofs.day.relaxed_cells.Given as goal

abbrev pub invariant-loop-cell : goal.invariant-loop-cell
invariant-loop-cell l = l.relaxed ≡ map (relaxed_cell l.kind) (take l.cell-index l.cells)
