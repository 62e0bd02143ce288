use Rattle.std.proofs.Common.{◌≡◌, ◌<◌, pos, length, arith, refl, rules}
use Rattle.std.specs.Prelude.{◌*ℤ◌, ◌-ℤ◌}
use Rattle.std.proofs.lemmas.Int.{ints}
use mir.Val.{to_z, of_z}
use mir.Syntax.{w64, w128}
use Rattle.lp_fractions.specs.declared.pivot_rows.column.Place.{Place}
use Rattle.search_node_columns.specs.Priced.{places_worth, listed_reduced}
use Rattle.search_node_columns.proofs.ReducedCosts.{worth_next, each_next, worth_none}
use Rattle.search_node_columns.proofs.listed.reduced_cost.Goals as goal

abbrev no_place : Place
no_place = record { row = 0; value = pos 0 }

pub loop-place-preserved : goal.loop-place-preserved
loop-place-preserved c =
    let k = c.loop-place.place-index in
    let i = c.loop-place.invariant in
    let e = c.as_slice-place-items.ensures in
    let h : k < length c.args.held.now.places = rw e at c.loop-place-test.true in
    let v = rw e at c.entry_worth-worth.ensures.value in
    let w = c.entry_worth-worth.ensures.within in
    let n = worth_next c.args.y.now c.args.held.now.places k no_place h in
    let a = each_next (λ (p : Place). p.row < length c.args.y.now) c.args.held.now.places k no_place h i.within in
    let b = each_next _ c.args.held.now.places k no_place h i.units in
    record {
      value = omega (arith, ints, i.value, v, n, w.low, w.high, i.size.low, i.size.high);
      within = a.1;
      units = b.1;
      size = record { low = omega (arith, ints, w.low, w.high, i.size.low, i.size.high); high = omega (arith, ints, w.low, w.high, i.size.low, i.size.high) };
    }

pub returns : goal.returns
returns c =
    let n = worth_none c.args.y.now c.args.held.now.places c.loop-place.place-index (rw c.as_slice-place-items.ensures at c.loop-place-test.false) in
    let i = c.loop-place.invariant in
    let w = c.scaled_cost.ensures.within in
    let d : listed_reduced c.args.y.now c.args.kappa c.args.held.now ≡ c.args.kappa *ℤ c.args.held.now.cost -ℤ places_worth c.args.y.now c.args.held.now.places = refl in
    let s = c.requires.plain.some in
    let f = c.requires.plain.few in
    let q : to_z w64 (of_z w64 c.args.held.now.cost) ≡ c.args.held.now.cost = omega (arith, ints) in
    let k : to_z w128 (of_z w128 c.args.kappa) ≡ c.args.kappa = search rules in
    let v = rw (k, q) at c.scaled_cost.ensures.value in
    rw d (omega (arith, ints, i.value, n, v, w.low, w.high, i.size.low, i.size.high))
