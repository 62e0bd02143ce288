use Rattle.std.proofs.Common.{◌≡◌, [], take}
use Rattle.law_bounds.specs.master_laws.Rows.{cut_rows}
use Rattle.lp_master_rows.specs.NodeRows.{with_rows}
use Rattle.lp_master_rows.proofs.rows.NodeRows.add_cuts.Given as goal

abbrev pub invariant-loop-cut : goal.invariant-loop-cut
invariant-loop-cut l = l.self ≡ with_rows l.fn.self [] (cut_rows (take l.cut-index l.cuts))
