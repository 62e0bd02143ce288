use Rattle.std.proofs.Common.{arith, pos, ◌<ℤ◌, SFits, rules, length, slice_index_or, sym, refl, inr}
use Rattle.std.specs.Int.{w128, w64}
use Rattle.std.proofs.lemmas.Int.{to_z-of_z, ints}
use Rattle.lp_fractions.specs.Row.{at}
use Rattle.lp_fractions.specs.pivot_rows.Columns.{AreWithin}
use Rattle.lp_tableaus.proofs.Counts.{refused_risen}
use Rattle.lp_tableaus.proofs.Places.{large_column, entry_of}
use Rattle.lp_tableaus.proofs.Turns.{within_more}
use Rattle.lp_tableaus.proofs.finish.basic_of.Goals as goal

pub returns-in-Err-clause-fault : goal.returns-in-Err-clause-fault
returns-in-Err-clause-fault g c = λ n.
    let p = g.C.Columns.program (g.C.Columns.site c.args.columns.now) in
    let k = c.requires.column in
    (refused_risen c.args.tally.now c.check_entries.new.tally c.in-Err.ensures.counted, inr (large_column p (g.C.Columns.Lists (g.C.Columns.state c.args.columns.now)) c.args.column k.0 c.places-places.result.now (c.places-places.ensures k.0 k.1) k.1 c.in-Err.ensures.wide))

pub entry_in-entry-requires-clause-within : goal.entry_in-entry-requires-clause-within
entry_in-entry-requires-clause-within g c =
    let p = g.C.Columns.program (g.C.Columns.site c.args.columns.now) in
    let k = c.requires.column in
    within_more c.places-places.result.now p.rows (length c.args.row.now) (omega (arith, c.requires.rows, c.requires.row.long)) (c.places-places.ensures k.0 k.1).within

pub new-requires-clause-nonzero : goal.new-requires-clause-nonzero
new-requires-clause-nonzero g c =
    let p = g.C.Columns.program (g.C.Columns.site c.args.columns.now) in
    let k = c.requires.column in
    let f : SFits w128 c.entry_in-entry.result = search rules in
    let column = c.places-places.ensures k.0 k.1 in
    let within : AreWithin c.args.right c.places-places.result.now = rw c.requires.rows column.within in
    let value = c.entry_in-entry.ensures.value c.args.right (omega (arith, c.requires.row.long)) within in
    let is = entry_of p.rows c.args.right (at c.args.row.now) (p.column k.0).entry c.places-places.result.now c.entry_in-entry.result c.requires.rows column value in
    let positive : pos 0 <ℤ c.entry_in-entry.result = rw (sym is) at k.2 in
    simp to_z-of_z (λ e. omega (arith, ints, positive, e))

pub returns-clause-share : goal.returns-clause-share
returns-clause-share g c = λ key listed.
    let p = g.C.Columns.program (g.C.Columns.site c.args.columns.now) in
    let f : SFits w128 c.entry_in-entry.result = search rules in
    let h : SFits w64 (slice_index_or c.args.row.now c.args.right (pos 0)) = search rules in
    let b : SFits w128 c.from.result = search rules in
    let column = c.places-places.ensures key listed in
    let within : AreWithin c.args.right c.places-places.result.now = rw c.requires.rows column.within in
    let value = c.entry_in-entry.ensures.value c.args.right (omega (arith, c.requires.row.long)) within in
    let is = entry_of p.rows c.args.right (at c.args.row.now) (p.column key).entry c.places-places.result.now c.entry_in-entry.result c.requires.rows column value in
    let number = simp to_z-of_z at c.from.ensures in
    let share = simp to_z-of_z at c.new.ensures in
    record { number = refl; share = rw (is, number) at share }
