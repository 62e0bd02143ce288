use Rattle.std.proofs.Common.{◌∙◌}
use Rattle.lp_tableaus.proofs.LaterFaults.{restless}
use Rattle.lp_tableaus.proofs.simplex.attempt_again.Goals as goal

pub returns-in-Err : goal.returns-in-Err
returns-in-Err g c =
    let calm = g.C.Columns.calm (g.C.Columns.site c.attempt.new.columns) in
    let p = g.C.Columns.program (g.C.Columns.site c.attempt.new.columns) in
    let lists = g.C.Columns.Lists (g.C.Columns.state c.attempt-in-Err.new.columns) in
    record {
      end = rw c.in-Err.ensures.site at c.attempt-in-Err.ensures.end;
      stopped = rw c.in-Err.ensures.site at (restless p lists calm c.args.pivots _ _ c.attempt-in-Err.result c.attempt-in-Err.ensures.fault);
      site = c.attempt-in-Err.ensures.site ∙ c.in-Err.ensures.site;
      ready = c.attempt-in-Err.ensures.ready;
      kept = g.C.Columns.chain _ _ _ c.in-Err.ensures.kept c.attempt-in-Err.ensures.kept;
    }
