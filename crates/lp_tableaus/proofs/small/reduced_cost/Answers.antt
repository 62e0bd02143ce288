use Rattle.std.proofs.Common.{◌+◌, arith, pos, ◌-ℤ◌, length, slice_index_or, SFits, rules, refl}
use Rattle.std.specs.Int.{w64, w128}
use Rattle.std.proofs.lemmas.Int.{to_z-of_z, ints}
use Rattle.lp_tableaus.proofs.Turns.{within_more}
use Rattle.lp_tableaus.proofs.small.reduced_cost.Goals as goal

pub entry_in-requires-clause-within : goal.entry_in-requires-clause-within
entry_in-requires-clause-within c =
    within_more c.args.places.now c.args.rows (length c.args.prices.now) (omega (arith, c.requires.long)) c.requires.within

pub returns-clause-value : goal.returns-clause-value
returns-clause-value c =
    let own : SFits w64 c.args.cost = c.ranges.cost in
    let f1 : SFits w64 (slice_index_or c.args.prices.now (c.args.rows + 1) (pos 0)) = search rules in
    let f2 : SFits w128 c.scaled_cost.result = search rules in
    let f3 : SFits w128 c.entry_in.result = search rules in
    let f4 : SFits w128 (c.scaled_cost.result -ℤ c.entry_in.result) = search (ints, rules) in
    let scaled = simp to_z-of_z at c.scaled_cost.ensures.value in
    let entry = c.entry_in.ensures.value c.args.rows (omega (arith, c.requires.long)) c.requires.within in
    simp to_z-of_z (rw (scaled, entry) refl)
