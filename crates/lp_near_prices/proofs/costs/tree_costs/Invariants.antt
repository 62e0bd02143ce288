use Rattle.std.proofs.Common.{◌≤◌, ◌*◌, ◌^◌}
use Rattle.model_rosters.specs.declared.instance.Instance.{Instance}
use Rattle.lp_near_prices.proofs.ListedTrees.{IsPaid}
use Rattle.lp_near_prices.proofs.costs.tree_costs.Given as goal

abbrev pub invariant-loop-tree : goal.invariant-loop-tree
invariant-loop-tree l = record {
  paid : (i : Instance) → IsPaid i l.pool l.listed l.tree-index l.sum;
  small : l.sum ≤ l.tree-index * 2 ^ 94;
}
