use Rattle.std.proofs.Common.{◌≡◌, ◌++◌, List, OnOk, refl, subst}
use Rattle.std.proofs.lemmas.Option.{slice_get_past, slice_get_read}
use Rattle.page_tables.specs.declared.line.ShiftLine.{ShiftLine}
use Rattle.page_rosters.proofs.LineLemmas.{line-past, line-there}
use Rattle.page_rosters.proofs.lines.add_line.Goals as goal

pub returns-in-None : goal.returns-in-None
returns-in-None c =
    let h = c.in-None.ensures.lookup in
    line-past c.args.instance.now c.args.labels.now c.args.marked.now c.args.shifts.now c.args.place c.args.lines.now (slice_get_past c.args.shifts.now c.args.place h.3)

pub returns-in-Some : goal.returns-in-Some
returns-in-Some c =
    let h = c.in-Some.ensures.lookup in
    let shift = c.in-Some.shift.now in
    let got = slice_get_read c.args.shifts.now _ c.args.place shift refl h.3.0 h.1 in
    subst (λ (t : List ShiftLine). OnOk c.add_shift.result (c.add_shift.new.lines ≡ c.args.lines.now ++ t))
    (line-there c.args.instance.now c.args.labels.now c.args.marked.now c.args.shifts.now c.args.place shift got) c.add_shift.ensures
