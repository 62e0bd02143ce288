use Rattle.std.proofs.Common.{arith, refl, ◌∙◌}
use Rattle.lp_tableaus.proofs.LaterFaults.{fault_later, may_stop}
use Rattle.lp_tableaus.proofs.run.run.Goals as goal

pub returns-in-Err-clause-fault : goal.returns-in-Err-clause-fault
returns-in-Err-clause-fault g c =
    let p = g.C.Columns.program (g.C.Columns.site c.args.columns.now) in
    let fault = rw c.turns.invariant.site at c.in-Err.ensures.fault in
    let lists = g.C.Columns.Lists (g.C.Columns.state c.next.new.columns) in
    may_stop p lists (g.C.Columns.calm (g.C.Columns.site c.args.columns.now)) c.args.pivots c.args.tally.now c.next.new.tally c.in-Err.fault
    (fault_later p lists c.args.pivots c.args.tally.now c.turns.tally c.next.new.tally c.in-Err.fault c.turns.invariant.wide c.turns.invariant.spent fault)

pub turns-init : goal.turns-init
turns-init g c =
    record {
      ready = c.requires.ready;
      site = refl;
      kept = g.C.Columns.same _;
      running = rw c.new-budget.ensures c.requires.running;
      wide = omega arith;
      spent = omega arith;
    }

pub turns-preserved : goal.turns-preserved
turns-preserved g c =
    record {
      ready = c.in-Ok-true.ensures.ready;
      site = c.in-Ok-true.ensures.site ∙ c.turns.invariant.site;
      kept = g.C.Columns.chain _ _ _ c.turns.invariant.kept c.in-Ok-true.ensures.kept;
      running = rw c.turns.invariant.site at (c.in-Ok-true.ensures.running c.in-Ok-true.field-0-test);
      wide = omega (arith, c.turns.invariant.wide, c.in-Ok-true.ensures.counts.0);
      spent = omega (arith, c.turns.invariant.spent, c.in-Ok-true.ensures.counts.1);
    }

pub returns-in-Ok-false-clause-kept : goal.returns-in-Ok-false-clause-kept
returns-in-Ok-false-clause-kept g c =
    g.C.Columns.chain _ _ _ c.turns.invariant.kept c.in-Ok-false.ensures.kept

pub returns-in-Err-clause-kept : goal.returns-in-Err-clause-kept
returns-in-Err-clause-kept g c =
    g.C.Columns.chain _ _ _ c.turns.invariant.kept c.in-Err.ensures.kept
