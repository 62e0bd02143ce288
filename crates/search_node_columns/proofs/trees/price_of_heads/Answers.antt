use Rattle.std.proofs.Common.{◌≡◌, ◌+◌, ℕ, ◌+ℤ◌, length, subst, arith, rules, to_z, of_z}
use Rattle.std.proofs.lemmas.Int.{ints}
use mir.Syntax.{w128}
use Rattle.lp_fractions.specs.Row.{at}
use Rattle.search_node_columns.proofs.FoundTrees.{heads_within}
use Rattle.search_node_columns.proofs.RowPrices.{at_narrow}
use Rattle.search_node_columns.proofs.trees.price_of_heads.Goals as goal

pub offset_bounds-y-head : goal.offset_bounds-y-head
offset_bounds-y-head c =
    let h = c.first_head-head.ensures c.args.task.now.day.instance.now c.args.task.now.cuts.now c.requires.task.rows in
    let l = heads_within c.args.task.now.day.instance.now c.args.task.now.cuts.now (length c.args.y.now) c.requires.y in
    search rules

pub bounds-y-head : goal.bounds-y-head
bounds-y-head c =
    let h = c.first_head-head.ensures c.args.task.now.day.instance.now c.args.task.now.cuts.now c.requires.task.rows in
    let l = heads_within c.args.task.now.day.instance.now c.args.task.now.cuts.now (length c.args.y.now) c.requires.y in
    omega arith

pub overflow_add-result : goal.overflow_add-result
overflow_add-result c =
    let h = c.first_head-head.ensures c.args.task.now.day.instance.now c.args.task.now.cuts.now c.requires.task.rows in
    let l = heads_within c.args.task.now.day.instance.now c.args.task.now.cuts.now (length c.args.y.now) c.requires.y in
    search rules

pub offset_bounds-y-head-2 : goal.offset_bounds-y-head-2
offset_bounds-y-head-2 c =
    let h = c.first_head-head.ensures c.args.task.now.day.instance.now c.args.task.now.cuts.now c.requires.task.rows in
    let l = heads_within c.args.task.now.day.instance.now c.args.task.now.cuts.now (length c.args.y.now) c.requires.y in
    search rules

pub bounds-y-head-2 : goal.bounds-y-head-2
bounds-y-head-2 c =
    let h = c.first_head-head.ensures c.args.task.now.day.instance.now c.args.task.now.cuts.now c.requires.task.rows in
    let l = heads_within c.args.task.now.day.instance.now c.args.task.now.cuts.now (length c.args.y.now) c.requires.y in
    omega arith

pub overflow_add-result-2 : goal.overflow_add-result-2
overflow_add-result-2 c =
    let a = at_narrow c.args.y.now c.requires.narrow c.first_head-head.result in
    let b = at_narrow c.args.y.now c.requires.narrow (c.first_head-head.result + 1) in
    omega (arith, ints, a, b)

pub returns : goal.returns
returns c = record {
  value =
      let h = c.first_head-head.ensures c.args.task.now.day.instance.now c.args.task.now.cuts.now c.requires.task.rows in
      let a = at_narrow c.args.y.now c.requires.narrow c.first_head-head.result in
      let b = at_narrow c.args.y.now c.requires.narrow (c.first_head-head.result + 1) in
      let x : to_z w128 (of_z w128 (at c.args.y.now c.first_head-head.result)) ≡ at c.args.y.now c.first_head-head.result = omega (arith, ints) in
      let y : to_z w128 (of_z w128 (at c.args.y.now (c.first_head-head.result + 1))) ≡ at c.args.y.now (c.first_head-head.result + 1) = omega (arith, ints) in
      subst (λ (n : ℕ). to_z w128 (of_z w128 (to_z w128 (of_z w128 (at c.args.y.now c.first_head-head.result)) +ℤ to_z w128 (of_z w128 (at c.args.y.now (c.first_head-head.result + 1))))) ≡ at c.args.y.now n +ℤ at c.args.y.now (n + 1)) h
      (omega (arith, ints, x, y));
}
