use Rattle.std.proofs.Common.{◌<◌, arith, pos, length, slice_index_or, SFits, rules, ap, ◌∙◌}
use Rattle.std.specs.Int.{w128}
use Rattle.std.proofs.lemmas.Int.{to_z-of_z, ints}
use Rattle.lp_tableaus.specs.Lines.{IsLeaving}
use Rattle.lp_tableaus.proofs.Ratios.{first_leaves, next_leaves, least_stays}
use Rattle.lp_tableaus.proofs.Turns.{row_is}
use Rattle.lp_tableaus.proofs.ratio.leaving_of.Goals as goal

pub returns-then-lower : goal.returns-then-lower
returns-then-lower c =
    let m = length c.args.rows.now in
    let f1 : SFits w128 (slice_index_or c.args.entries.now c.args.row (pos 0)) = search rules in
    let f2 : SFits w128 (slice_index_or c.args.entries.now c.in-Some.least (pos 0)) = search rules in
    let best : IsLeaving m c.args.rows.now c.args.entries.now c.args.row c.in-Some.least = rw c.in-Some.is at c.requires.best in
    let inside : c.in-Some.least < m = let w = best.within in let q = c.requires.row in omega arith in
    let first = c.as_slice.ensures ∙ row_is c.args.rows.now c.args.row c.index-rows-row.result c.requires.row c.index-rows-row.is in
    let second = c.as_slice-2.ensures ∙ row_is c.args.rows.now c.in-Some.least c.index-rows-least.result inside c.index-rows-least.is in
    let lower = simp to_z-of_z at c.if-lower.ensures.lower in
    next_leaves m c.args.rows.now c.args.entries.now c.args.row c.in-Some.least best (omega (arith, ints)) (rw (first, second) at lower)

pub returns-in_default : goal.returns-in_default
returns-in_default c =
    let f : SFits w128 (slice_index_or c.args.entries.now c.args.row (pos 0)) = search rules in
    first_leaves (length c.args.rows.now) c.args.rows.now c.args.entries.now c.args.row (omega (arith, ints)) (rw c.in_default.is at c.requires.best)

pub returns-else-lower : goal.returns-else-lower
returns-else-lower c =
    let m = length c.args.rows.now in
    let f1 : SFits w128 (slice_index_or c.args.entries.now c.args.row (pos 0)) = search rules in
    let f2 : SFits w128 (slice_index_or c.args.entries.now c.in-Some.least (pos 0)) = search rules in
    let best : IsLeaving m c.args.rows.now c.args.entries.now c.args.row c.in-Some.least = rw c.in-Some.is at c.requires.best in
    let inside : c.in-Some.least < m = let w = best.within in let q = c.requires.row in omega arith in
    let first = c.as_slice.ensures ∙ row_is c.args.rows.now c.args.row c.index-rows-row.result c.requires.row c.index-rows-row.is in
    let second = c.as_slice-2.ensures ∙ row_is c.args.rows.now c.in-Some.least c.index-rows-least.result inside c.index-rows-least.is in
    let higher = simp to_z-of_z at c.if-lower.ensures.higher in
    least_stays m c.args.rows.now c.args.entries.now c.args.row c.in-Some.least best (λ p. rw (first, second) at higher)

pub is_before-lower-requires-clause-first : goal.is_before-lower-requires-clause-first
is_before-lower-requires-clause-first c =
    let first = c.as_slice.ensures ∙ row_is c.args.rows.now c.args.row c.index-rows-row.result c.requires.row c.index-rows-row.is in
    rw first (c.requires.lines.each c.args.row c.requires.row).narrow

pub is_before-lower-requires-clause-one : goal.is_before-lower-requires-clause-one
is_before-lower-requires-clause-one c =
    let first = c.as_slice.ensures ∙ row_is c.args.rows.now c.args.row c.index-rows-row.result c.requires.row c.index-rows-row.is in
    omega (arith, ap length first, (c.requires.lines.each c.args.row c.requires.row).long)

pub is_before-lower-requires-clause-second : goal.is_before-lower-requires-clause-second
is_before-lower-requires-clause-second c =
    let m = length c.args.rows.now in
    let best : IsLeaving m c.args.rows.now c.args.entries.now c.args.row c.in-Some.least = rw c.in-Some.is at c.requires.best in
    let inside : c.in-Some.least < m = omega (arith, best.within, c.requires.row) in
    let second = c.as_slice-2.ensures ∙ row_is c.args.rows.now c.in-Some.least c.index-rows-least.result inside c.index-rows-least.is in
    rw second (c.requires.lines.each c.in-Some.least inside).narrow

pub is_before-lower-requires-clause-two : goal.is_before-lower-requires-clause-two
is_before-lower-requires-clause-two c =
    let m = length c.args.rows.now in
    let best : IsLeaving m c.args.rows.now c.args.entries.now c.args.row c.in-Some.least = rw c.in-Some.is at c.requires.best in
    let inside : c.in-Some.least < m = omega (arith, best.within, c.requires.row) in
    let second = c.as_slice-2.ensures ∙ row_is c.args.rows.now c.in-Some.least c.index-rows-least.result inside c.index-rows-least.is in
    omega (arith, ap length second, (c.requires.lines.each c.in-Some.least inside).long)
