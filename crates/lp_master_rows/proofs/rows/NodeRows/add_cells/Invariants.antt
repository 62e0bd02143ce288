use Rattle.std.proofs.Common.{◌≡◌, take}
use Rattle.lp_master_rows.specs.NodeRows.{kind_rows, kind_cells, with_rows}
use Rattle.lp_master_rows.proofs.rows.NodeRows.add_cells.Given as goal

abbrev pub invariant-loop-cell : goal.invariant-loop-cell
invariant-loop-cell l = l.self ≡ with_rows l.fn.self (kind_cells l.kind (take l.cell-index l.cells)) (kind_rows l.kind (take l.cell-index l.cells))
