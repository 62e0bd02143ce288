use Rattle.std.proofs.Common.{arith, pos, ◌+ℤ◌, SFits, rules, slice_index_or, to_z}
use Rattle.std.specs.Int.{w128, w64}
use Rattle.std.proofs.lemmas.Int.{to_z-of_z, ints}
use Rattle.lp_fractions.specs.Row.{at}
use Rattle.lp_tableaus.proofs.Starts.{value_more}
use Rattle.lp_tableaus.proofs.first.value_of.Goals as goal

pub loop-row-preserved : goal.loop-row-preserved
loop-row-preserved c =
    let v = to_z w128 c.loop-row.value-bits in
    let s : SFits w128 c.scaled_cost-value.result = search rules in
    let a : SFits w64 (slice_index_or c.args.right.now c.loop-row.row (pos 0)) = search rules in
    let b : SFits w64 (slice_index_or c.args.costs.now c.loop-row.row (pos 0)) = search rules in
    let own = simp to_z-of_z at c.scaled_cost-value.ensures.value in
    let low = c.scaled_cost-value.ensures.low in
    let high = c.scaled_cost-value.ensures.high in
    let sum : SFits w128 (to_z w128 c.loop-row.value-bits +ℤ c.scaled_cost-value.result) = search rules in
    simp to_z-of_z (record {
      value = value_more c.loop-row.row (at c.args.costs.now) (at c.args.right.now) (to_z w128 c.loop-row.value-bits) c.scaled_cost-value.result c.loop-row.invariant.value own;
      low = let l = c.loop-row.invariant.low in omega (arith, ints, l, low);
      high = let l = c.loop-row.invariant.high in omega (arith, ints, l, high);
    })
