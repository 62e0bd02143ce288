use Rattle.std.proofs.Common.{◌≡◌, ℕ, subst, sym, refl, ap}
use Rattle.model_rosters.specs.declared.instance.Instance.{Instance}
use Rattle.lp_tableaus.specs.Ends.{IsLpEnd}
use Rattle.law_bounds.specs.master_laws.Rows.{rows_of}
use Rattle.law_bounds.specs.master_laws.Master.{MasterKey, missing, master}
use Rattle.law_bounds.proofs.master_laws.RowSums.{master_sound}
use Rattle.law_bounds.proofs.master_laws.RowSizes.{small}
use Rattle.search_node_columns.specs.declared.workspace.Kind.{Kind}
use Rattle.search_node_columns.specs.Columns.{NodeSite, HasKey, IsKey, site_program}
use Rattle.search_masters.proofs.EndsLemmas.{given_up, small_path}
use Rattle.search_masters.proofs.exact.solve_at.Goals as goal

pub solve-requires-clause-ready : goal.solve-requires-clause-ready
solve-requires-clause-ready g c = record {
  sound = c.requires.may.task.day.sound;
  graph = c.requires.may.task.day.graph;
  pricer = c.requires.may.tools.pricer;
  pool = c.requires.may.tools.pool;
  rows = c.requires.may.task.rows;
  small = c.requires.may.task.rows.few;
  cuts = small_path c.args.task.now.day.instance.now c.args.task.now.cuts.now c.requires.may.node.path;
  workspace = c.requires.workspace;
}

pub solve-requires-clause-sound : goal.solve-requires-clause-sound
solve-requires-clause-sound g c = master_sound c.args.task.now.day.instance.now (rows_of c.args.task.now.day.instance.now c.args.task.now.cuts.now)

pub solve-requires-clause-units : goal.solve-requires-clause-units
solve-requires-clause-units g c = λ r h.
    let u = c.requires.workspace.held.units r h in
    record { one = u.0; at = u.1; key = subst (λ (k : Kind). IsKey c.args.task.now.day.instance.now.grammar c.args.pool.now k (missing r)) (sym u.2) refl }

pub solve-requires-clause-costs : goal.solve-requires-clause-costs
solve-requires-clause-costs g c = λ k b.
    ((small c.args.task.now.day.instance.now c.requires.may.task.day.sound c.args.task.now.cuts.now (small_path c.args.task.now.day.instance.now c.args.task.now.cuts.now c.requires.may.node.path)).cost k b).0

pub best_end-requires-clause-end : goal.best_end-requires-clause-end
best_end-requires-clause-end g c =
    let i = c.args.task.now.day.instance.now in
    let cuts = c.args.task.now.cuts.now in
    let s = c.solve.new.columns in
    let day : s.task.now.day.instance.now ≡ i = ap (λ (site : NodeSite). site.instance) c.solve.ensures.site in
    subst (λ (d : Instance). IsLpEnd (master i cuts) (HasKey d.grammar s.pool.now s.workspace.now.held) c.in-Ok.end.basic c.in-Ok.end.y c.in-Ok.end.kappa c.in-Ok.end.value) day c.in-Ok.ensures.end

pub returns-in-Err-clause-end : goal.returns-in-Err-clause-end
returns-in-Err-clause-end g c =
    let i = c.args.task.now.day.instance.now in
    let cuts = c.args.task.now.cuts.now in
    let s = c.solve.new.columns in
    let belongs = subst (λ (site : NodeSite). (j : ℕ) (k : MasterKey) → HasKey s.task.now.day.instance.now.grammar s.pool.now s.workspace.now.held j k → (site_program site).belongs k) c.solve.ensures.site
    (λ j k l. ((c.in-Err.ensures.ready.workspace.held.each j l.one l.at).tells k l.key).belongs) in
    given_up i cuts _ _ (g.W.Watch.patient c.args.watch.now) c.new-tally.result c.solve.new.tally c.in-Err.fault c.failed.result c.requires.may.task.day.sound c.requires.may.node.path c.requires.may.task.rows.few belongs c.in-Err.ensures.fault c.failed.ensures
