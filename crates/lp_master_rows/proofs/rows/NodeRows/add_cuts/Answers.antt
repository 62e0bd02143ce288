use Rattle.lp_master_rows.proofs.AddedRows.{cuts_step}
use Rattle.lp_master_rows.proofs.rows.NodeRows.add_cuts.Goals as goal

pub loop-cut-preserved : goal.loop-cut-preserved
loop-cut-preserved c = cuts_step c.args.self.now c.loop-cut.self c.add_cut.new.self c.args.cuts.now c.loop-cut.cut-index _ c.loop-cut-test.true c.loop-cut.invariant c.in_ok-add_cut.ensures
