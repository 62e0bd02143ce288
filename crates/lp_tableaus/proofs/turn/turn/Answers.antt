use Rattle.std.proofs.Common.{◌≡◌, arith, pos, neg_ℤ, ◌-ℤ◌, length, slice_index_or, SFits, rules, ap, sym, refl, ◌∙◌, inl, inr}
use Rattle.std.specs.Int.{w128}
use Rattle.std.proofs.lemmas.Int.{to_z-of_z, ints}
use Rattle.std.proofs.lemmas.Result.{err_from_is_err_and}
use Rattle.std.proofs.Math.ListN.{length-set}
use Rattle.lp_fractions.specs.Range.{refused}
use Rattle.lp_tableaus.specs.Lines.{row_at, IsLeaving, AreEntries}
use Rattle.lp_tableaus.proofs.Turns.{row_is, padded_is, padded_narrow, padded_long, entry_fits}
use Rattle.lp_tableaus.proofs.turn.turn.Goals as goal

pub returns-in_err-step-clause-pivot : goal.returns-in_err-step-clause-pivot
returns-in_err-step-clause-pivot c =
    let rows = c.args.sheet.now.rows in
    let m = length rows in
    let row = c.leaving-row.result in
    let entries : AreEntries m rows c.args.places.now c.write.new.self m = rw c.as_slice.ensures at c.write.ensures.entries in
    let leaves : IsLeaving m rows c.write.new.self m row = rw (c.as_slice-2.ensures, c.as_slice-3.ensures) at c.leaving-row.ensures in
    let line = c.requires.sheet.lines.each row leaves.within in
    let read = c.as_slice-5.ensures ∙ row_is rows row c.index-as_slice-row.result leaves.within (rw c.as_slice-4.ensures at c.index-as_slice-row.is) in
    let padded = padded_is (row_at rows row) c.as_slice-5.result.now c.set.new.self (length c.args.sheet.now.pivot) read (omega (arith, line.long, c.requires.pivot)) c.set.ensures in
    ap length padded ∙ padded_long (row_at rows row) ∙ omega (arith, line.long, c.requires.pivot)

pub returns-in_err-step-clause-wide : goal.returns-in_err-step-clause-wide
returns-in_err-step-clause-wide c =
    let rows = c.args.sheet.now.rows in
    let m = length rows in
    let row = c.leaving-row.result in
    let entries : AreEntries m rows c.args.places.now c.write.new.self m = rw c.as_slice.ensures at c.write.ensures.entries in
    let leaves : IsLeaving m rows c.write.new.self m row = rw (c.as_slice-2.ensures, c.as_slice-3.ensures) at c.leaving-row.ensures in
    let p = err_from_is_err_and c.from_residual.result c.from_residual.ensures.1 in
    rw p.1 (row, c.write.new.self, entries, record { leaving = leaves; wide = inl (rw c.as_slice-7.ensures at c.in_err-step.ensures.wide) })

pub step-requires-2-clause-other : goal.step-requires-2-clause-other
step-requires-2-clause-other c =
    let rows = c.args.sheet.now.rows in
    let m = length rows in
    let row = c.leaving-row.result in
    let entries : AreEntries m rows c.args.places.now c.write.new.self m = rw c.as_slice.ensures at c.write.ensures.entries in
    let leaves : IsLeaving m rows c.write.new.self m row = rw (c.as_slice-2.ensures, c.as_slice-3.ensures) at c.leaving-row.ensures in
    let line = c.requires.sheet.lines.each row leaves.within in
    let read = c.as_slice-5.ensures ∙ row_is rows row c.index-as_slice-row.result leaves.within (rw c.as_slice-4.ensures at c.index-as_slice-row.is) in
    let padded = padded_is (row_at rows row) c.as_slice-5.result.now c.set.new.self (length c.args.sheet.now.pivot) read (omega (arith, line.long, c.requires.pivot)) c.set.ensures in
    rw padded (padded_narrow (row_at rows row) line.narrow)

pub returns-in_err-step-2-clause-pivot : goal.returns-in_err-step-2-clause-pivot
returns-in_err-step-2-clause-pivot c =
    let rows = c.args.sheet.now.rows in
    let m = length rows in
    let row = c.leaving-row.result in
    let entries : AreEntries m rows c.args.places.now c.write.new.self m = rw c.as_slice.ensures at c.write.ensures.entries in
    let leaves : IsLeaving m rows c.write.new.self m row = rw (c.as_slice-2.ensures, c.as_slice-3.ensures) at c.leaving-row.ensures in
    let line = c.requires.sheet.lines.each row leaves.within in
    let read = c.as_slice-5.ensures ∙ row_is rows row c.index-as_slice-row.result leaves.within (rw c.as_slice-4.ensures at c.index-as_slice-row.is) in
    let padded = padded_is (row_at rows row) c.as_slice-5.result.now c.set.new.self (length c.args.sheet.now.pivot) read (omega (arith, line.long, c.requires.pivot)) c.set.ensures in
    ap length padded ∙ padded_long (row_at rows row) ∙ omega (arith, line.long, c.requires.pivot)

pub returns-in_err-step-2-clause-wide : goal.returns-in_err-step-2-clause-wide
returns-in_err-step-2-clause-wide c =
    let rows = c.args.sheet.now.rows in
    let m = length rows in
    let row = c.leaving-row.result in
    let entries : AreEntries m rows c.args.places.now c.write.new.self m = rw c.as_slice.ensures at c.write.ensures.entries in
    let leaves : IsLeaving m rows c.write.new.self m row = rw (c.as_slice-2.ensures, c.as_slice-3.ensures) at c.leaving-row.ensures in
    let line = c.requires.sheet.lines.each row leaves.within in
    let read = c.as_slice-5.ensures ∙ row_is rows row c.index-as_slice-row.result leaves.within (rw c.as_slice-4.ensures at c.index-as_slice-row.is) in
    let padded = padded_is (row_at rows row) c.as_slice-5.result.now c.set.new.self (length c.args.sheet.now.pivot) read (omega (arith, line.long, c.requires.pivot)) c.set.ensures in
    let f1 : SFits w128 (slice_index_or c.write.new.self row (pos 0)) = entry_fits m rows c.args.places.now c.write.new.self row entries leaves.within in
    let f2 : SFits w128 (pos 0 -ℤ c.args.reduced) = search rules in
    let minus : pos 0 -ℤ c.args.reduced ≡ neg_ℤ c.args.reduced = omega (arith, ints) in
    let f3 : SFits w128 c.args.reduced = c.ranges.reduced in
    let p = err_from_is_err_and c.from_residual-in_err-step-2.result c.from_residual-in_err-step-2.ensures.1 in
    let wide = simp to_z-of_z at (rw c.as_slice-6.ensures at c.in_err-step-2.ensures.wide) in
    rw p.1 (row, c.write.new.self, entries, record { leaving = leaves; wide = inr (rw (padded, minus) at wide) })

pub returns-clause-turned : goal.returns-clause-turned
returns-clause-turned c =
    let rows = c.args.sheet.now.rows in
    let m = length rows in
    let row = c.leaving-row.result in
    let entries : AreEntries m rows c.args.places.now c.write.new.self m = rw c.as_slice.ensures at c.write.ensures.entries in
    let leaves : IsLeaving m rows c.write.new.self m row = rw (c.as_slice-2.ensures, c.as_slice-3.ensures) at c.leaving-row.ensures in
    let line = c.requires.sheet.lines.each row leaves.within in
    let read = c.as_slice-5.ensures ∙ row_is rows row c.index-as_slice-row.result leaves.within (rw c.as_slice-4.ensures at c.index-as_slice-row.is) in
    let padded = padded_is (row_at rows row) c.as_slice-5.result.now c.set.new.self (length c.args.sheet.now.pivot) read (omega (arith, line.long, c.requires.pivot)) c.set.ensures in
    let f1 : SFits w128 (slice_index_or c.write.new.self row (pos 0)) = entry_fits m rows c.args.places.now c.write.new.self row entries leaves.within in
    let f2 : SFits w128 (pos 0 -ℤ c.args.reduced) = search rules in
    let minus : pos 0 -ℤ c.args.reduced ≡ neg_ℤ c.args.reduced = omega (arith, ints) in
    let f3 : SFits w128 c.args.reduced = c.ranges.reduced in
    let cost = simp to_z-of_z at (rw c.as_slice-6.ensures at c.in_ok-step-2.ensures.step) in
    (row, entries, record { leaving = leaves; others = rw c.as_slice-7.ensures at c.in_ok-step.ensures.stepped; prices = rw (padded, minus) at cost }, refl)

pub returns-clause-sheet : goal.returns-clause-sheet
returns-clause-sheet c =
    let rows = c.args.sheet.now.rows in
    let m = length rows in
    let row = c.leaving-row.result in
    let entries : AreEntries m rows c.args.places.now c.write.new.self m = rw c.as_slice.ensures at c.write.ensures.entries in
    let leaves : IsLeaving m rows c.write.new.self m row = rw (c.as_slice-2.ensures, c.as_slice-3.ensures) at c.leaving-row.ensures in
    record { lines = c.in_ok-step.ensures.lines; prices = rw c.requires.sheet.prices.long at c.in_ok-step-2.ensures.line; columns = length-set c.args.sheet.now.basis.items row c.args.column ∙ c.requires.sheet.columns }

pub returns-clause-pivot : goal.returns-clause-pivot
returns-clause-pivot c =
    let rows = c.args.sheet.now.rows in
    let m = length rows in
    let row = c.leaving-row.result in
    let entries : AreEntries m rows c.args.places.now c.write.new.self m = rw c.as_slice.ensures at c.write.ensures.entries in
    let leaves : IsLeaving m rows c.write.new.self m row = rw (c.as_slice-2.ensures, c.as_slice-3.ensures) at c.leaving-row.ensures in
    let line = c.requires.sheet.lines.each row leaves.within in
    let read = c.as_slice-5.ensures ∙ row_is rows row c.index-as_slice-row.result leaves.within (rw c.as_slice-4.ensures at c.index-as_slice-row.is) in
    let padded = padded_is (row_at rows row) c.as_slice-5.result.now c.set.new.self (length c.args.sheet.now.pivot) read (omega (arith, line.long, c.requires.pivot)) c.set.ensures in
    ap length padded ∙ padded_long (row_at rows row) ∙ omega (arith, line.long, c.requires.pivot)

pub write-requires-clause-lines : goal.write-requires-clause-lines
write-requires-clause-lines c =
    rw c.as_slice.ensures c.requires.sheet.lines

pub write-requires-clause-length : goal.write-requires-clause-length
write-requires-clause-length c =
    c.requires.entries ∙ sym (ap length c.as_slice.ensures)

pub write-requires-clause-within : goal.write-requires-clause-within
write-requires-clause-within c =
    rw c.as_slice.ensures c.requires.within

pub bounds-as_slice-row-2 : goal.bounds-as_slice-row-2
bounds-as_slice-row-2 c =
    omega (arith, c.leaving-row.ensures.within, ap length c.as_slice-2.ensures, ap length c.as_slice-6.ensures, c.write.ensures.length, ap length c.as_slice.ensures)

pub step-requires-clause-leaving : goal.step-requires-clause-leaving
step-requires-clause-leaving c =
    let rows = c.args.sheet.now.rows in
    let m = length rows in
    let row = c.leaving-row.result in
    let entries : AreEntries m rows c.args.places.now c.write.new.self m = rw c.as_slice.ensures at c.write.ensures.entries in
    let leaves : IsLeaving m rows c.write.new.self m row = rw (c.as_slice-2.ensures, c.as_slice-3.ensures) at c.leaving-row.ensures in
    leaves.within

pub step-requires-clause-sizes : goal.step-requires-clause-sizes
step-requires-clause-sizes c =
    let rows = c.args.sheet.now.rows in
    let m = length rows in
    let row = c.leaving-row.result in
    let entries : AreEntries m rows c.args.places.now c.write.new.self m = rw c.as_slice.ensures at c.write.ensures.entries in
    λ r h. rw c.as_slice-7.ensures (entries r h).1

pub step-requires-clause-positive : goal.step-requires-clause-positive
step-requires-clause-positive c =
    let rows = c.args.sheet.now.rows in
    let m = length rows in
    let row = c.leaving-row.result in
    let entries : AreEntries m rows c.args.places.now c.write.new.self m = rw c.as_slice.ensures at c.write.ensures.entries in
    let leaves : IsLeaving m rows c.write.new.self m row = rw (c.as_slice-2.ensures, c.as_slice-3.ensures) at c.leaving-row.ensures in
    rw c.as_slice-7.ensures leaves.positive

pub step-requires-clause-pivot : goal.step-requires-clause-pivot
step-requires-clause-pivot c =
    let rows = c.args.sheet.now.rows in
    let m = length rows in
    let row = c.leaving-row.result in
    let entries : AreEntries m rows c.args.places.now c.write.new.self m = rw c.as_slice.ensures at c.write.ensures.entries in
    let leaves : IsLeaving m rows c.write.new.self m row = rw (c.as_slice-2.ensures, c.as_slice-3.ensures) at c.leaving-row.ensures in
    let line = c.requires.sheet.lines.each row leaves.within in
    let read = c.as_slice-5.ensures ∙ row_is rows row c.index-as_slice-row.result leaves.within (rw c.as_slice-4.ensures at c.index-as_slice-row.is) in
    let padded = padded_is (row_at rows row) c.as_slice-5.result.now c.set.new.self (length c.args.sheet.now.pivot) read (omega (arith, line.long, c.requires.pivot)) c.set.ensures in
    padded

pub step-requires-2-clause-lengths : goal.step-requires-2-clause-lengths
step-requires-2-clause-lengths c =
    let rows = c.args.sheet.now.rows in
    let m = length rows in
    let row = c.leaving-row.result in
    let entries : AreEntries m rows c.args.places.now c.write.new.self m = rw c.as_slice.ensures at c.write.ensures.entries in
    let leaves : IsLeaving m rows c.write.new.self m row = rw (c.as_slice-2.ensures, c.as_slice-3.ensures) at c.leaving-row.ensures in
    let line = c.requires.sheet.lines.each row leaves.within in
    let read = c.as_slice-5.ensures ∙ row_is rows row c.index-as_slice-row.result leaves.within (rw c.as_slice-4.ensures at c.index-as_slice-row.is) in
    let padded = padded_is (row_at rows row) c.as_slice-5.result.now c.set.new.self (length c.args.sheet.now.pivot) read (omega (arith, line.long, c.requires.pivot)) c.set.ensures in
    omega (arith, c.requires.sheet.prices.long, ap length padded, padded_long (row_at rows row), line.long)

pub step-requires-2-clause-factor : goal.step-requires-2-clause-factor
step-requires-2-clause-factor c =
    let rows = c.args.sheet.now.rows in
    let m = length rows in
    let row = c.leaving-row.result in
    let entries : AreEntries m rows c.args.places.now c.write.new.self m = rw c.as_slice.ensures at c.write.ensures.entries in
    let leaves : IsLeaving m rows c.write.new.self m row = rw (c.as_slice-2.ensures, c.as_slice-3.ensures) at c.leaving-row.ensures in
    let f : SFits w128 (slice_index_or c.write.new.self row (pos 0)) = entry_fits m rows c.args.places.now c.write.new.self row entries leaves.within in
    rw c.as_slice-6.ensures (simp to_z-of_z (leaves.positive, (entries row leaves.within).1))

pub step-requires-2-clause-entry : goal.step-requires-2-clause-entry
step-requires-2-clause-entry c =
    let f1 : SFits w128 (pos 0 -ℤ c.args.reduced) = search rules in
    let f2 : SFits w128 c.args.reduced = c.ranges.reduced in
    simp to_z-of_z (omega (arith, ints, c.requires.reduced))

pub returns-in_err-step-2-clause-turned : goal.returns-in_err-step-2-clause-turned
returns-in_err-step-2-clause-turned c =
    let p = err_from_is_err_and c.from_residual-in_err-step-2.result c.from_residual-in_err-step-2.ensures.1 in
    rw p.1 tt

pub returns-in_err-step-2-clause-sheet : goal.returns-in_err-step-2-clause-sheet
returns-in_err-step-2-clause-sheet c =
    let p = err_from_is_err_and c.from_residual-in_err-step-2.result c.from_residual-in_err-step-2.ensures.1 in
    rw p.1 tt

pub returns-in_err-step-2-clause-counted : goal.returns-in_err-step-2-clause-counted
returns-in_err-step-2-clause-counted c =
    let p = err_from_is_err_and c.from_residual-in_err-step-2.result c.from_residual-in_err-step-2.ensures.1 in
    rw p.1 (c.in_err-step-2.ensures.counted ∙ ap refused c.in_ok-step.ensures.counted)

pub returns-in_err-step-clause-turned : goal.returns-in_err-step-clause-turned
returns-in_err-step-clause-turned c =
    let p = err_from_is_err_and c.from_residual.result c.from_residual.ensures.1 in
    rw p.1 tt

pub returns-in_err-step-clause-sheet : goal.returns-in_err-step-clause-sheet
returns-in_err-step-clause-sheet c =
    let p = err_from_is_err_and c.from_residual.result c.from_residual.ensures.1 in
    rw p.1 tt

pub returns-in_err-step-clause-counted : goal.returns-in_err-step-clause-counted
returns-in_err-step-clause-counted c =
    let p = err_from_is_err_and c.from_residual.result c.from_residual.ensures.1 in
    rw p.1 c.in_err-step.ensures.counted
