use Rattle.std.proofs.Common.{◌≡◌, List, length}
use Rattle.tree_pool.specs.Pools.{PoolTree}
use Rattle.search_node_columns.specs.Columns.{AreTold, HasMissing}
use Rattle.search_node_columns.proofs.first.add_missing.Given as goal

abbrev pub invariant-loop-row : goal.invariant-loop-row
invariant-loop-row l = record {
  count : length l.held ≡ l.row;
  units : HasMissing l.row l.held;
  told : (pool : List PoolTree) → AreTold l.task.day.instance.now l.task.cuts.now pool l.held;
}
