use Rattle.std.proofs.Common.{◌+◌, arith, pos, ◌<ℤ◌, SFits, rules}
use Rattle.std.specs.Int.{w128, w64}
use Rattle.std.proofs.lemmas.Int.{to_z-of_z, ints}
use Rattle.lp_fractions.specs.Row.{at}
use Rattle.lp_tableaus.proofs.Places.{reduced_is}
use Rattle.lp_tableaus.proofs.choice.cheaper.Goals as goal

pub reduced_cost-reduced-requires-clause-within : goal.reduced_cost-reduced-requires-clause-within
reduced_cost-reduced-requires-clause-within g c =
    let k = c.requires.keys c.args.column c.requires.column in
    rw c.rows.ensures ((c.places-places.ensures k.0 k.1).within)

pub reduced_cost-reduced-requires-clause-rising : goal.reduced_cost-reduced-requires-clause-rising
reduced_cost-reduced-requires-clause-rising g c =
    let k = c.requires.keys c.args.column c.requires.column in
    (c.places-places.ensures k.0 k.1).rising

pub returns-then-reduced-lt0 : goal.returns-then-reduced-lt0
returns-then-reduced-lt0 g c =
    let k = c.requires.keys c.args.column c.requires.column in
    let p = g.C.Columns.program (g.C.Columns.site c.args.columns.now) in
    let f : SFits w64 c.cost-cost.result = search rules in
    let h : SFits w128 c.reduced_cost-reduced.result = search rules in
    let value = simp to_z-of_z at (rw c.rows.ensures at c.reduced_cost-reduced.ensures.value) in
    let is = reduced_is p.rows (at c.args.prices.now) (at c.args.prices.now (p.rows + 1)) c.reduced_cost-reduced.result c.cost-cost.result (p.column k.0) c.places-places.result.now value (c.cost-cost.ensures k.0 k.1) (c.places-places.ensures k.0 k.1) in
    let below = simp to_z-of_z at c.if-reduced-lt0.true in
    let negative : c.reduced_cost-reduced.result <ℤ pos 0 = omega (arith, ints) in
    record { within = c.requires.column; key = k.0; listed = k.1; member = k.2; cheaper = rw is at negative }
