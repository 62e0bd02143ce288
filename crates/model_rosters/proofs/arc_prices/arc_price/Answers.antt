use Rattle.std.proofs.Common.{rules, arith, ◌≡◌, ◌<◌, ◌≤◌, length, get_or, sym, ◌∙◌}
use Rattle.std.proofs.lemmas.Bool.{eqb-true}
use Rattle.std.proofs.lemmas.Int.{ints}
use Rattle.model_rosters.proofs.Entries.{found, no-entries, not-found, unmarked}
use Rattle.model_rosters.proofs.arc_prices.arc_price.Goals as goal
use mir.Syntax.{w128}
use mir.Val.{to_z, of_z}

pub returns-then-is_empty-clause-value : goal.returns-then-is_empty-clause-value
returns-then-is_empty-clause-value c =
    sym (no-entries c.args.entries.now c.args.arc.now (eqb-true _ _ (sym c.if-is_empty.ensures)))

pub returns-then-is_unmarked-clause-value : goal.returns-then-is_unmarked-clause-value
returns-then-is_unmarked-clause-value c =
    sym (unmarked c.args.marks.now c.args.entries.now c.args.arc.now c.requires.marked (c.is_unmarked.ensures.0 c.if-is_unmarked.true))

pub returns-in-Some-clause-value : goal.returns-in-Some-clause-value
returns-in-Some-clause-value c =
    let w = c.entry_price.ensures.within in
    let same : to_z w128 (of_z w128 c.entry_price.result) ≡ c.entry_price.result = omega (arith, ints, w.low, w.high) in
    let within : c.place_of-place.result < length c.args.entries.now = search rules in
    let at : c.in-Some.entry.now ≡ get_or c.args.entries.now c.place_of-place.result c.in-Some.entry.now = search rules in
    same ∙ c.entry_price.ensures.value ∙ sym (found c.args.entries.now c.args.arc.now c.requires.sorted c.place_of-place.result c.place_of-place.ensures c.in-Some.entry.now within at)

pub returns-in-None-clause-value : goal.returns-in-None-clause-value
returns-in-None-clause-value c =
    let out : length c.args.entries.now ≤ c.place_of-place.result = search rules in
    sym (not-found c.args.entries.now c.args.arc.now c.requires.sorted c.place_of-place.result c.place_of-place.ensures out)
