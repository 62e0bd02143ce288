use Rattle.std.proofs.Common.{arith}
use Rattle.lp_tableaus.proofs.LaterFaults.{fault_later, may_stop}
use Rattle.lp_tableaus.proofs.simplex.attempt.Goals as goal

pub returns-in-Err-clause-fault : goal.returns-in-Err-clause-fault
returns-in-Err-clause-fault g c =
    let p = g.C.Columns.program (g.C.Columns.site c.args.columns.now) in
    let calm = g.C.Columns.calm (g.C.Columns.site c.args.columns.now) in
    may_stop p (g.C.Columns.Lists (g.C.Columns.state c.args.columns.now)) calm c.args.pivots c.args.tally.now c.start.new.tally c.in-Err.fault (c.in-Err.ensures.fault c.args.pivots)

pub run-requires-clause-running : goal.run-requires-clause-running
run-requires-clause-running g c = c.in-Ok.ensures.running c.args.pivots

pub returns-in-Err-finish-clause-fault : goal.returns-in-Err-finish-clause-fault
returns-in-Err-finish-clause-fault g c =
    let p = g.C.Columns.program (g.C.Columns.site c.args.columns.now) in
    let later = rw c.in_default.ensures.site at (c.in-Err-finish.ensures.fault c.args.pivots) in
    let calm = g.C.Columns.calm (g.C.Columns.site c.args.columns.now) in
    let lists = g.C.Columns.Lists (g.C.Columns.state c.run.new.columns) in
    may_stop p lists calm c.args.pivots c.args.tally.now c.finish.new.tally c.in-Err-finish.fault
    (fault_later p lists c.args.pivots c.args.tally.now c.run.new.tally c.finish.new.tally c.in-Err-finish.fault
    (let a = c.in-Ok.ensures.counts.0 in let b = c.in_default.ensures.counts.0 in omega arith)
    (let a = c.in-Ok.ensures.counts.1 in let b = c.in_default.ensures.counts.1 in omega arith) later)
