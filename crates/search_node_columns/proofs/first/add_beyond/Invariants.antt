use Rattle.std.proofs.Common.{List}
use Rattle.tree_pool.specs.Pools.{PoolTree}
use Rattle.search_node_columns.specs.Columns.{AreTold, HasBeyonds, HasMore}
use Rattle.search_node_columns.proofs.first.add_beyond.Given as goal

abbrev pub invariant-loop-row : goal.invariant-loop-row
invariant-loop-row l = record {
  more : HasMore l.initial.held l.held;
  listed : (pool : List PoolTree) → AreTold l.task.day.instance.now l.task.cuts.now pool l.initial.held
      → AreTold l.task.day.instance.now l.task.cuts.now pool l.held × HasBeyonds l.task.day.instance.now l.task.cuts.now l.row l.held;
}
