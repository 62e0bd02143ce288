-- What is lent to the generations of a day's nodes.
use Rattle.std.specs.Prelude.{List}
use Rattle.tree_cheapest.specs.Pricers.{PricerView, IsMadeFor}
use Rattle.tree_pool.specs.Pools.{PoolTree, IsPool, IsGrown}
use Rattle.lp_master_rows.specs.declared.search_day.day.Day.{Day}
use Rattle.lp_master_rows.specs.declared.node_task.task.NodeTask.{NodeTask}
use Rattle.lp_master_rows.specs.node_task.Tasks.{IsTask}

-- the pricer is the graph's, and the pool has trees of the day
pub record AreTools (d : Day) (p : PricerView) (ts : List PoolTree) : Type 0 where
  pub pricer : IsMadeFor d.graph.now p
  pub pool : IsPool d.instance.now.grammar ts

-- they still are, and the old trees kept their numbers
pub record StayTools (d : Day) (p : PricerView) (old new : List PoolTree) : Type 0 where
  pub are : AreTools d p new
  pub grown : IsGrown old new

-- a column generation may use the pricer and the pool
pub record MayGenerate (t : NodeTask) (p : PricerView) (ts : List PoolTree) : Type 0 where
  pub task : IsTask t
  pub tools : AreTools t.day p ts
