use Rattle.std.proofs.Common.{◌≡◌, ℕ, ◌+◌, arith, refl, ◌∙◌, subst}
use Rattle.std.proofs.lemmas.Bool.{false≢true}
use Rattle.law_bounds.specs.linear_programs.Tableau.{PivotPath}
use Rattle.lp_tableaus.specs.Sheet.{tableau_of}
use Rattle.lp_tableaus.proofs.Counts.{spent_risen}
use Rattle.lp_tableaus.proofs.EnteringColumns.{tied_of}
use Rattle.lp_tableaus.proofs.LaterFaults.{on_path_kept, fault_later}
use Rattle.lp_tableaus.proofs.run.next.Goals as goal

pub entering-requires-clause-kappa : goal.entering-requires-clause-kappa
entering-requires-clause-kappa g c =
    let p = g.C.Columns.program (g.C.Columns.site c.args.columns.now) in
    let run = c.requires.running in
    let tied = tied_of p (g.C.Columns.Lists (g.C.Columns.state c.args.columns.now)) c.args.sheet.now.rows c.args.sheet.now.cost c.args.sheet.now.basis.items run.steps c.requires.sound run.path in
    rw c.as_slice-3.ensures tied.kappa

pub returns-in-Ok-None-clause-priced : goal.returns-in-Ok-None-clause-priced
returns-in-Ok-None-clause-priced g c = λ no.
    let p = g.C.Columns.program (g.C.Columns.site c.args.columns.now) in
    let run = c.requires.running in
    let ensures = c.in-Ok-None.ensures in
    let path = on_path_kept p (g.C.Columns.Lists (g.C.Columns.state c.args.columns.now)) (g.C.Columns.Lists (g.C.Columns.state c.entering.new.columns)) c.args.sheet.now.rows c.args.sheet.now.cost c.args.sheet.now.basis.items run.steps
    (λ j k l. g.C.Columns.still _ _ j k c.in-Ok-None.ensures.kept l) run.path in
    record {
      sheet = run.sheet;
      steps = run.steps;
      path = path;
      out = rw c.as_slice-3.ensures at (rw c.in-Ok-None.field-0-is at c.in-Ok-None.ensures.none);
      copied = rw c.as_slice-3.ensures at (rw c.in-Ok-None.field-0-is at c.in-Ok-None.ensures.copied);
      long = c.in-Ok-None.ensures.length ∙ run.room.price;
    }

pub returns-in-Err-clause-fault : goal.returns-in-Err-clause-fault
returns-in-Err-clause-fault g c = c.in-Err.ensures.fault c.args.pivots

pub returns-then-not-take-clause-fault : goal.returns-then-not-take-clause-fault
returns-then-not-take-clause-fault g c =
    let p = g.C.Columns.program (g.C.Columns.site c.args.columns.now) in
    let run = c.requires.running in
    let spent = c.if-not-take.ensures.spent in
    let steps : run.steps ≡ c.args.pivots = omega (arith, run.count, spent.0) in
    let cheap = rw c.as_slice-3.ensures at (rw c.in-Ok-Some.field-0-is at c.in-Ok-Some.ensures.found) in
    let path = subst (λ (n : ℕ). PivotPath p n (tableau_of p.rows run.path.keys c.args.sheet.now.rows c.args.sheet.now.cost)) steps run.path.path in
    let risen = spent_risen c.entering.new.tally c.take.new.tally spent.2 in
    (refl, rw c.in-Ok-Some.ensures.counts.1 at risen, (tableau_of p.rows run.path.keys c.args.sheet.now.rows c.args.sheet.now.cost, path, cheap.key, cheap.member, cheap.cheaper))

pub enter-requires-clause-path : goal.enter-requires-clause-path
enter-requires-clause-path g c =
    let p = g.C.Columns.program (g.C.Columns.site c.args.columns.now) in
    let run = c.requires.running in
    let path = on_path_kept p (g.C.Columns.Lists (g.C.Columns.state c.args.columns.now)) (g.C.Columns.Lists (g.C.Columns.state c.entering.new.columns)) c.args.sheet.now.rows c.args.sheet.now.cost c.args.sheet.now.basis.items run.steps
    (λ j k l. g.C.Columns.still _ _ j k c.in-Ok-Some.ensures.kept l) run.path in
    rw c.in-Ok-Some.ensures.site (run.steps, path)

pub returns-in-Ok-clause-running : goal.returns-in-Ok-clause-running
returns-in-Ok-clause-running g c = λ yes.
    let p = g.C.Columns.program (g.C.Columns.site c.args.columns.now) in
    let run = c.requires.running in
    let path = on_path_kept p (g.C.Columns.Lists (g.C.Columns.state c.args.columns.now)) (g.C.Columns.Lists (g.C.Columns.state c.entering.new.columns)) c.args.sheet.now.rows c.args.sheet.now.cost c.args.sheet.now.basis.items run.steps
    (λ j k l. g.C.Columns.still _ _ j k c.in-Ok-Some.ensures.kept l) run.path in
    let more = rw c.in-Ok-Some.ensures.site at c.in-Ok.ensures.path in
    record {
      sheet = rw c.in-Ok-Some.ensures.site at c.in-Ok.ensures.sheet;
      room = rw c.in-Ok-Some.ensures.site at c.in-Ok.ensures.room;
      steps = run.steps + 1;
      count = omega (arith, run.count, c.if-not-take.ensures.taken.0);
      path = more run.steps path;
    }

pub returns-in-Err-enter-clause-fault : goal.returns-in-Err-enter-clause-fault
returns-in-Err-enter-clause-fault g c =
    let p = g.C.Columns.program (g.C.Columns.site c.args.columns.now) in
    let later = rw (c.in-Ok-Some.ensures.site, c.if-not-take.ensures.taken.1) at (c.in-Err-enter.ensures.fault c.args.pivots) in
    fault_later p (g.C.Columns.Lists (g.C.Columns.state c.entering.new.columns)) c.args.pivots c.args.tally.now c.entering.new.tally c.enter.new.tally c.in-Err-enter.fault c.in-Ok-Some.ensures.counts.0 (let s = c.in-Ok-Some.ensures.counts.1 in omega arith) later

pub entering-requires-clause-cost : goal.entering-requires-clause-cost
entering-requires-clause-cost g c =
    rw c.as_slice-3.ensures c.requires.running.sheet.prices

pub returns-in-Ok-None-clause-running : goal.returns-in-Ok-None-clause-running
returns-in-Ok-None-clause-running g c =
    λ yes. absurd (false≢true yes)

pub enter-requires-clause-sound : goal.enter-requires-clause-sound
enter-requires-clause-sound g c =
    rw c.in-Ok-Some.ensures.site c.requires.sound

pub enter-requires-clause-costs : goal.enter-requires-clause-costs
enter-requires-clause-costs g c =
    rw c.in-Ok-Some.ensures.site c.requires.costs

pub enter-requires-clause-sheet : goal.enter-requires-clause-sheet
enter-requires-clause-sheet g c =
    rw c.in-Ok-Some.ensures.site c.requires.running.sheet
