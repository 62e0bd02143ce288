use Rattle.std.proofs.Common.{◌≡◌, ◌<◌, length, refl, ◌∙◌, arith, rules, to_z, of_z}
use Rattle.std.proofs.lemmas.Option.{none-some}
use mir.Syntax.{w64}
use Rattle.law_bounds.specs.master_laws.Rows.{rows_of}
use Rattle.search_node_columns.proofs.FirstColumns.{missing_held, told_push, missing_push, pushed_length}
use Rattle.search_node_columns.proofs.first.add_missing.Goals as goal

pub loop-row-init : goal.loop-row-init
loop-row-init c = rw c.requires.none record { count = refl; units = λ r l. absurd (omega arith); told = λ pool j h at. absurd (none-some h at) }

pub loop-row-preserved : goal.loop-row-preserved
loop-row-preserved c =
    let v = c.loop-row.invariant in
    let k : to_z w64 (of_z w64 c.args.artificial) ≡ c.args.artificial = search rules in
    let m : to_z w64 (of_z w64 c.missing_cost.result) ≡ c.missing_cost.result = search rules in
    rw c.in_ok-push.ensures.ok record {
      count = pushed_length c.loop-row.row c.loop-row.held _ v.count;
      units = missing_push c.loop-row.row c.loop-row.held _ v.units v.count refl;
      told = λ pool.
          let i = c.args.task.now.day.instance.now in
          let cuts = c.args.task.now.cuts.now in
          let rows = c.requires.task.rows in
          let below : c.loop-row.row < length (rows_of i cuts) = let e = c.right-row-end.ensures.length i cuts rows in omega (arith, e, c.loop-row-test.true) in
          told_push i cuts pool c.loop-row.held _ (v.told pool)
          (missing_held i cuts pool c.loop-row.row _ below refl c.in_ok-one_place.ensures (m ∙ c.missing_cost.ensures i cuts rows (k ∙ c.requires.artificial)));
    }

pub returns : goal.returns
returns c = λ pool.
    let v = c.loop-row.invariant in
    let e = c.right-row-end.ensures.length c.args.task.now.day.instance.now c.args.task.now.cuts.now c.requires.task.rows in
    (v.told pool, λ r l. v.units r (omega (arith, e, c.loop-row-test.false)))
