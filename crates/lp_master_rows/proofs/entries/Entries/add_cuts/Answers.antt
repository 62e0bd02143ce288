use Rattle.std.proofs.Common.{◌≡◌, ◌<◌, ◌+◌, ◌↔◌, Bool, cond, get_or, sym, IsTrue, ℕ, ℤ, pos, arith, ap, ◌∙◌}
use Rattle.std.proofs.lemmas.Option.{slice_get-get_or}
use Rattle.std.proofs.lemmas.Bool.{ltb_from_iff}
use Rattle.model_rosters.specs.declared.instance.Cut.{Cut}
use Rattle.model_rosters.specs.declared.instance.Side.TheVariants.{Low}
use Rattle.model_rosters.specs.Arcs.{same_arc}
use Rattle.model_rosters.specs.Folds.{count}
use Rattle.tree_pool.specs.Pools.{PoolTree}
use Rattle.lp_master_rows.proofs.EntriesLemmas.{listed_step}
use Rattle.lp_master_rows.proofs.entries.Entries.add_cuts.Goals as goal

pub loop-cut-preserved : goal.loop-cut-preserved
loop-cut-preserved c = λ n (entry : ℕ → ℤ) (x : PoolTree) at old few are.
    let l = c.loop-cut-test.true in
    let none : Cut = record { arc = record { rule = 0; suffix = 0; start = 0; len = 0; part = 0 }; side = Low; b = 0 } in
    let cut = get_or c.args.cuts.now c.loop-cut.cut-index none in
    let h : IsTrue c.has_arc.result ↔ (0 < count (same_arc cut.arc) x.arcs) = c.has_arc.ensures x at in
    let test = ltb_from_iff h in
    let e : entry (n + c.loop-cut.cut-index) ≡ pos (cond c.has_arc.result 1 0) =
    are c.loop-cut.cut-index cut (slice_get-get_or c.args.cuts.now c.loop-cut.cut-index none l) ∙ ap (λ (b : Bool). pos (cond b 1 0)) (sym test) in
    let more : n + (c.loop-cut.cut-index + 1) ≡ n + c.loop-cut.cut-index + 1 = omega arith in
    rw (more, c.in_ok-add.ensures) (listed_step (n + c.loop-cut.cut-index) entry c.loop-cut.self c.has_arc.result (omega arith) (c.loop-cut.invariant n entry x at old few are) e)
