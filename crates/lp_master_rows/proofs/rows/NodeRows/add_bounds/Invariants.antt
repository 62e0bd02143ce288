use Rattle.std.proofs.Common.{◌≡◌, ◌+◌, ◌++◌, take, length}
use Rattle.law_bounds.specs.master_laws.Rows.{floor_rows, ceiling_rows}
use Rattle.lp_master_rows.specs.NodeRows.{bounds_from}
use Rattle.lp_master_rows.proofs.rows.NodeRows.add_bounds.Given as goal

abbrev pub invariant-loop-cell : goal.invariant-loop-cell
invariant-loop-cell l =
    (l.self ≡ record l.fn.self { bounds = l.fn.self.bounds ++ bounds_from l.floors l.ceilings (take l.cell-index l.cells) })
    × (l.floor ≡ l.floors + length (floor_rows (take l.cell-index l.cells)))
    × (l.ceiling ≡ l.ceilings + length (ceiling_rows (take l.cell-index l.cells)))
