use Rattle.std.proofs.Common.{◌≡◌, ◌<◌, length, refl, ◌∙◌, arith, rules, to_z, of_z}
use mir.Syntax.{w64}
use Rattle.law_bounds.specs.master_laws.Rows.{rows_of}
use Rattle.search_node_columns.proofs.FirstColumns.{beyond_held, told_push, beyonds_push, beyonds_skip, more_push}
use Rattle.search_node_columns.proofs.first.add_beyond.Goals as goal
use Rattle.search_node_columns.proofs.first.add_beyond.Goals.{in-Some+in_ok-one_place+in_ok-push, in_default}

pub loop-row-preserved : goal.loop-row-preserved
loop-row-preserved c =
    let v = c.loop-row.invariant in
    let i = c.args.task.now.day.instance.now in
    let cuts = c.args.task.now.cuts.now in
    let rows = c.requires.rows in
    elim c.match-beyond_cost.branch [
      | in-Some+in_ok-one_place+in_ok-push w ↦
          let m : to_z w64 (of_z w64 w.in-Some.cost) ≡ w.in-Some.cost = search rules in
          rw (w.held-is, w.in_ok-push.ensures.ok) record {
            more = more_push c.args.held.now c.loop-row.held _ v.more;
            listed = λ pool told.
                let below : c.loop-row.row < length (rows_of i cuts) = let e = c.right-row-end.ensures.length i cuts rows in omega (arith, e, c.loop-row-test.true) in
                let some = w.in-Some.ensures.some i cuts rows in
                let l = v.listed pool told in (
                  told_push i cuts pool c.loop-row.held _ l.0 (beyond_held i cuts pool c.loop-row.row _ below some.0 refl w.in_ok-one_place.ensures (m ∙ some.1)),
                  beyonds_push i cuts pool c.loop-row.row c.loop-row.held _ l.1 refl,
                );
          }
      | in_default w ↦
          rw w.held-is record {
            more = v.more;
            listed = λ pool told. let l = v.listed pool told in (l.0, beyonds_skip i cuts pool c.loop-row.row c.loop-row.held l.1 (w.in_default.ensures.none i cuts rows));
          }
    ]

pub returns-clause-listed : goal.returns-clause-listed
returns-clause-listed c = λ pool told.
    let l = c.loop-row.invariant.listed pool told in
    let e = c.right-row-end.ensures.length c.args.task.now.day.instance.now c.args.task.now.cuts.now c.requires.rows in
    (l.0, λ r b h. l.1 r (omega (arith, e, c.loop-row-test.false)) h)
