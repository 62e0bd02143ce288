use Rattle.std.proofs.Common.{◌≡◌, ◌++◌, List, OnOk, refl, subst}
use Rattle.std.proofs.lemmas.Option.{slice_get_past, slice_get_read}
use Rattle.page_text.specs.declared.row.Row.{Row}
use Rattle.page_views.proofs.RowLemmas.{row-past, row-there}
use Rattle.page_views.proofs.rows.add_row.Goals as goal

pub returns-in-None-clause-rows : goal.returns-in-None-clause-rows
returns-in-None-clause-rows c =
    let h = c.in-None.ensures.lookup in
    row-past c.args.instance.now c.args.labels.now c.args.comparison.now c.args.shifts.now c.args.place c.args.rows.now (slice_get_past c.args.shifts.now c.args.place h.3)

pub returns-in-Some-clause-rows : goal.returns-in-Some-clause-rows
returns-in-Some-clause-rows c =
    let h = c.in-Some.ensures.lookup in
    let shift = c.in-Some.shift.now in
    let got = slice_get_read c.args.shifts.now _ c.args.place shift refl h.3.0 h.1 in
    subst (λ (t : List Row). OnOk c.add_own_row.result (c.add_own_row.new.rows ≡ c.args.rows.now ++ t)) (row-there c.args.instance.now c.args.labels.now c.args.comparison.now c.args.shifts.now c.args.place shift got) c.add_own_row.ensures.rows
