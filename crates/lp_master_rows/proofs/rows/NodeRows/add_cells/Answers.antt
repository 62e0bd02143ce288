use Rattle.lp_master_rows.proofs.AddedRows.{cells_step}
use Rattle.lp_master_rows.proofs.rows.NodeRows.add_cells.Goals as goal

pub loop-cell-preserved : goal.loop-cell-preserved
loop-cell-preserved c = cells_step c.args.self.now c.loop-cell.self c.add_kind.new.self c.args.kind c.args.cells.now c.loop-cell.cell-index _ c.loop-cell-test.true c.loop-cell.invariant c.in_ok-add_kind.ensures
