-- What lists the trees of a node.
use Rattle.std.specs.Prelude.{List}
use Rattle.tree_cheapest.specs.Pricers.{PricerView, IsMadeFor}
use Rattle.tree_pool.specs.Pools.{PoolTree, IsPool, IsGrown}
use Rattle.lp_master_rows.specs.declared.node_task.task.NodeTask.{NodeTask}
use Rattle.search_node_columns.specs.declared.workspace.ColumnWorkspace.{ColumnWorkspace}
use Rattle.search_node_columns.specs.Columns.{IsWorkspace}

-- a pricer for the graph, a pool of the day's trees, and a workspace of the node
pub record AreTools (t : NodeTask) (p : PricerView) (trees : List PoolTree) (d : ColumnWorkspace) : Type 0 where
  pub made : IsMadeFor t.day.graph.now p
  pub pool : IsPool t.day.instance.now.grammar trees
  pub workspace : IsWorkspace t.day.instance.now t.cuts.now trees d

-- they still are, and the old trees of the pool kept their numbers
pub record StayTools (t : NodeTask) (p : PricerView) (old new : List PoolTree) (d : ColumnWorkspace) : Type 0 where
  pub are : AreTools t p new d
  pub grown : IsGrown old new
