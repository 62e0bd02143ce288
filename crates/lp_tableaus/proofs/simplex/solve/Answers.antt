use Rattle.std.proofs.Common.{◌∙◌}
use Rattle.lp_tableaus.proofs.LaterFaults.{end_kept}
use Rattle.lp_tableaus.proofs.simplex.solve.Goals as goal

pub returns-in-Err-attempt_again : goal.returns-in-Err-attempt_again
returns-in-Err-attempt_again g c =
    let p = g.C.Columns.program (g.C.Columns.site c.args.columns.now) in
    let old = g.C.Columns.state c.attempt.new.columns in
    let new = g.C.Columns.state c.attempt_again.new.columns in
    record {
      end = tt;
      fault = end_kept p (g.C.Columns.Lists old) (g.C.Columns.Lists new) (g.C.Columns.calm (g.C.Columns.site c.args.columns.now)) c.args.pivots c.args.tally.now c.attempt.new.tally c.in-Err.fault
          (λ j k l. g.C.Columns.still old new j k c.in-Err-attempt_again.ensures.kept l) c.in-Err.ensures.fault;
      site = c.in-Err-attempt_again.ensures.site ∙ c.in-Err.ensures.site;
      ready = c.in-Err-attempt_again.ensures.ready;
      kept = g.C.Columns.chain _ _ _ c.in-Err.ensures.kept c.in-Err-attempt_again.ensures.kept;
      counts = c.in-Err.ensures.counts;
    }

pub returns-in-Ok-attempt_again-clause-kept : goal.returns-in-Ok-attempt_again-clause-kept
returns-in-Ok-attempt_again-clause-kept g c =
    g.C.Columns.chain _ _ _ c.in-Err.ensures.kept c.in-Ok-attempt_again.ensures.kept

pub returns-in-Err-Memory-clause-kept : goal.returns-in-Err-Memory-clause-kept
returns-in-Err-Memory-clause-kept g c =
    g.C.Columns.chain _ _ _ c.in-Err.ensures.kept c.in-Err-Memory.ensures.kept

pub returns-in-Err-Stopped-clause-fault : goal.returns-in-Err-Stopped-clause-fault
returns-in-Err-Stopped-clause-fault g c =
    rw c.in-Err.ensures.site at (c.in-Err-Stopped.ensures.stopped c.in-Err-Stopped.field-0-is)

pub returns-in-Err-Stopped-clause-kept : goal.returns-in-Err-Stopped-clause-kept
returns-in-Err-Stopped-clause-kept g c =
    g.C.Columns.chain _ _ _ c.in-Err.ensures.kept c.in-Err-Stopped.ensures.kept
