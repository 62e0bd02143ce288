use Rattle.std.proofs.Common.{◌<◌, ◌+◌, arith, pos, length, slice_index_or, SFits, rules, ap, refl, sym, ◌∙◌}
use Rattle.std.specs.Int.{w128}
use Rattle.std.proofs.lemmas.Int.{to_z-of_z}
use Rattle.std.proofs.lemmas.Result.{err_from_is_err_and}
use Rattle.lp_tableaus.specs.Lines.{row_at, IsLine}
use Rattle.lp_tableaus.proofs.Turns.{row_is, lines_set, stepped_more, stepped_past, wide_row, padded_long, padded_narrow}
use Rattle.lp_tableaus.proofs.turn.step_rows.Goals as goal
use Rattle.lp_tableaus.proofs.turn.step_rows.Goals.{then-row-leaving+in_ok-step, else-row-leaving}

pub loop-row-preserved : goal.loop-row-preserved
loop-row-preserved c =
    let inside : c.loop-row.row < length c.loop-row.rows = omega arith in
    let f1 : SFits w128 (slice_index_or c.args.entries.now c.args.leaving (pos 0)) = search rules in
    let f2 : SFits w128 (slice_index_or c.args.entries.now c.loop-row.row (pos 0)) = search rules in
    let m = length c.args.rows.now in
    elim c.if-row-leaving.branch [
      | then-row-leaving+in_ok-step w ↦
          (let now = row_is c.loop-row.rows c.loop-row.row w.index-rows-row.result inside w.index-rows-row.is in
          let read = w.index-rows-row.is in
          let made = simp to_z-of_z at w.in_ok-step.ensures.step in
          let long = (c.loop-row.invariant.lines.each c.loop-row.row c.loop-row-test.true).long in
          let left : IsLine (m + 1) w.step.new.self = rw (ap length (sym read ∙ now) ∙ long) at w.in_ok-step.ensures.line in
          rw (w.rows-is, w.tally-is) (record {
            stepped = stepped_more c.args.rows.now c.args.entries.now c.args.leaving c.loop-row.rows c.loop-row.row c.loop-row.invariant.stepped w.index-rows-row.result c.args.pivot.now w.step.new.self inside w.if-row-leaving.true now c.requires.pivot (rw (sym read) at made);
            lines = lines_set m c.loop-row.rows c.loop-row.row w.step.new.self inside left c.loop-row.invariant.lines;
            tally = w.in_ok-step.ensures.counted ∙ c.loop-row.invariant.tally;
          }))
      | else-row-leaving w ↦
          rw (w.rows-is, w.tally-is) (record {
            stepped = stepped_past c.args.rows.now c.args.entries.now c.args.leaving c.loop-row.rows c.loop-row.row c.loop-row.invariant.stepped w.if-row-leaving.false;
            lines = c.loop-row.invariant.lines;
            tally = c.loop-row.invariant.tally;
          })
    ]

pub returns-in_err-step-clause-wide : goal.returns-in_err-step-clause-wide
returns-in_err-step-clause-wide c =
    let inside : c.loop-row.row < length c.loop-row.rows = omega arith in
    let f1 : SFits w128 (slice_index_or c.args.entries.now c.args.leaving (pos 0)) = search rules in
    let f2 : SFits w128 (slice_index_or c.args.entries.now c.loop-row.row (pos 0)) = search rules in
    let now = row_is c.loop-row.rows c.loop-row.row c.index-rows-row.result inside c.index-rows-row.is in
    let wide = simp to_z-of_z at c.in_err-step.ensures.wide in
    let p = err_from_is_err_and c.from_residual.result c.from_residual.ensures.1 in
    rw p.1
    (wide_row c.args.rows.now c.args.entries.now c.args.leaving c.loop-row.rows c.loop-row.row c.loop-row.invariant.stepped (length c.args.rows.now) c.index-rows-row.result c.args.pivot.now (omega arith) c.if-row-leaving.true now c.requires.pivot (rw (sym c.index-rows-row.is) at wide))

pub step-requires-clause-line : goal.step-requires-clause-line
step-requires-clause-line c =
    let inside : c.loop-row.row < length c.loop-row.rows = omega (arith, c.loop-row.auto.rows, c.loop-row-test.true) in
    let read = sym c.index-rows-row.is ∙ row_is c.loop-row.rows c.loop-row.row c.index-rows-row.result inside c.index-rows-row.is in
    let line = c.loop-row.invariant.lines.each c.loop-row.row c.loop-row-test.true in
    rw read (record { long = refl; narrow = line.narrow; primitive = line.primitive })

pub step-requires-clause-lengths : goal.step-requires-clause-lengths
step-requires-clause-lengths c =
    let inside : c.loop-row.row < length c.loop-row.rows = omega (arith, c.loop-row.auto.rows, c.loop-row-test.true) in
    let read = sym c.index-rows-row.is ∙ row_is c.loop-row.rows c.loop-row.row c.index-rows-row.result inside c.index-rows-row.is in
    let line = c.loop-row.invariant.lines.each c.loop-row.row c.loop-row-test.true in
    let pivot = ap length c.requires.pivot ∙ padded_long (row_at c.args.rows.now c.args.leaving) in
    omega (arith, ap length read, line.long, pivot, (c.requires.lines.each c.args.leaving c.requires.leaving).long)

pub step-requires-clause-other : goal.step-requires-clause-other
step-requires-clause-other c =
    rw c.requires.pivot (padded_narrow (row_at c.args.rows.now c.args.leaving) (c.requires.lines.each c.args.leaving c.requires.leaving).narrow)
