use Rattle.std.proofs.Common.{◌≡◌, ◌<◌, ◌+ℤ◌, ◌*ℤ◌, ◌+◌, drop, length, get_or, rules, SFits, arith, ◌∙◌, to_z, of_z, pos}
use Rattle.std.specs.Int.{w64, w128}
use Rattle.std.proofs.lemmas.Int.{ints, to_z-of_z}
use Rattle.std.proofs.lemmas.List.{at_drop_more, at_drop_all}
use Rattle.lp_fractions.specs.Row.{at}
use Rattle.lp_fractions.specs.declared.pivot_rows.column.Place.{Place}
use Rattle.lp_fractions.proofs.pivot_rows.Entries.{places_sum, places_sum_is, few_places}
use Rattle.lp_fractions.proofs.pivot_rows.column.entry_in.Goals as goal

pub loop-place-preserved : goal.loop-place-preserved
loop-place-preserved c =
    let i = c.loop-place.place-index in
    let ps = c.args.column.now in
    let none : Place = record { row = 0; value = pos 0 } in
    let fits : SFits w64 c.product_at.result = search rules in
    let same : c.from-sum.result ≡ c.product_at.result = simp to_z-of_z at c.from-sum.ensures in
    let few = few_places ps (length c.args.row.now) c.requires.within c.requires.rising in
    let size = c.product_at.ensures.size in
    let small = c.loop-place.invariant.size in
    let lt : i < length ps = omega arith in
    let sum : to_z w128 (of_z w128 (to_z w128 c.loop-place.sum-bits +ℤ to_z w128 (of_z w128 c.from-sum.result))) ≡ to_z w128 c.loop-place.sum-bits +ℤ c.product_at.result = omega (arith, ints) in
    let rest : places_sum (at c.args.row.now) (drop i ps) ≡ at c.args.row.now (get_or ps i none).row *ℤ (get_or ps i none).value +ℤ places_sum (at c.args.row.now) (drop (i + 1) ps) =
    at_drop_more (places_sum (at c.args.row.now)) ps i none lt in
    let here = c.product_at.ensures.value in
    let all = c.loop-place.invariant.value in
    rw sum (record {
      value = omega (arith, ints);
      size = omega (arith, ints);
    })

pub returns-clause-value : goal.returns-clause-value
returns-clause-value c = λ n h within.
    let f = at c.args.row.now in
    let ps = c.args.column.now in
    let none : places_sum f (drop c.loop-place.place-index ps) ≡ pos 0 = at_drop_all (places_sum f) ps c.loop-place.place-index c.loop-place-test.false in
    let all = c.loop-place.invariant.value in
    let sum : to_z w128 c.loop-place.sum-bits ≡ places_sum f ps = omega (arith, ints) in
    sum ∙ places_sum_is f n ps within c.requires.rising

pub returns-clause-size : goal.returns-clause-size
returns-clause-size c =
    let few = few_places c.args.column.now (length c.args.row.now) c.requires.within c.requires.rising in
    omega (arith, c.loop-place.invariant.size)
