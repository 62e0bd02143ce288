use Rattle.std.proofs.Common.{arith, length, SFits, rules, ap, ◌∙◌}
use Rattle.std.specs.Int.{w128}
use Rattle.std.proofs.lemmas.Int.{to_z-of_z}
use Rattle.lp_tableaus.proofs.Turns.{row_is, within_more, entries_more}
use Rattle.lp_tableaus.proofs.turn.write_entries.Goals as goal

pub entry_in-requires-clause-within : goal.entry_in-requires-clause-within
entry_in-requires-clause-within c =
    let e = c.as_slice.ensures ∙ row_is c.args.rows.now c.loop-row.row c.index-rows-row.result c.loop-row-test.true c.index-rows-row.is in
    let long = c.requires.lines.each c.loop-row.row c.loop-row-test.true in
    within_more c.args.column.now (length c.args.rows.now) (length c.as_slice.result.now) (omega (arith, ap length e, long.long)) c.requires.within

pub loop-row-preserved : goal.loop-row-preserved
loop-row-preserved c =
    let f : SFits w128 c.entry_in.result = search rules in
    let m = length c.args.rows.now in
    let e = c.as_slice.ensures ∙ row_is c.args.rows.now c.loop-row.row c.index-rows-row.result c.loop-row-test.true c.index-rows-row.is in
    let long = (c.requires.lines.each c.loop-row.row c.loop-row-test.true).long in
    let value = c.entry_in.ensures.value m (omega (arith, ap length e, long)) c.requires.within in
    simp to_z-of_z (entries_more m c.args.rows.now c.args.column.now c.loop-row.entries c.loop-row.row c.entry_in.result (omega arith) (rw e at value) c.entry_in.ensures.size c.loop-row.invariant)
