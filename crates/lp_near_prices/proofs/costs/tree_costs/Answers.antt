use Rattle.std.proofs.Common.{arith}
use Rattle.lp_near_prices.specs.declared.listed.ListedTree.{ListedTree}
use Rattle.lp_near_prices.proofs.ListedTrees.{paid-next}
use Rattle.lp_near_prices.proofs.costs.tree_costs.Goals as goal

pub loop-tree-preserved : goal.loop-tree-preserved
loop-tree-preserved c =
    let v = c.loop-tree.invariant in
    let none : ListedTree = record { column = 0; weight = 0 } in
    let a = c.tree_cost-sum.ensures.small in
    record {
      paid = λ i. paid-next i c.args.pool.now c.args.listed.now c.loop-tree.tree-index c.loop-tree.sum c.tree_cost-sum.result none c.loop-tree-test.true (v.paid i) c.tree_cost-sum.ensures.value;
      small = omega (arith, v.small, a);
    }
