use Rattle.std.proofs.Common.{get_or, refl}
use Rattle.lp_near_prices.specs.declared.listed.ListedTree.{ListedTree}
use Rattle.search_node_columns.specs.declared.weights.Weight.{Weight}
use Rattle.search_masters.proofs.NearEnds.{shares_more}
use Rattle.search_masters.proofs.listed.weights_of.Goals as goal

pub loop-tree-preserved : goal.loop-tree-preserved
loop-tree-preserved c =
    let none : ListedTree = record { column = 0; weight = 0 } in
    let x : Weight = record { column = (get_or c.args.listed.now c.loop-tree.tree-index none).column; x = c.share_of.result } in
    rw c.in_ok-push.ensures.ok
    (shares_more c.args.listed.now c.loop-tree.tree-index none c.loop-tree.weights x c.loop-tree-test.true c.loop-tree.invariant (record { column = refl; share = c.share_of.ensures }))
