-- Column generations that go on.
use Rattle.std.specs.Prelude.{◌≡◌, List, length}
use Rattle.tree_cheapest.specs.Pricers.{PricerView}
use Rattle.tree_pool.specs.Pools.{PoolTree, IsGrown}
use Rattle.lp_master_rows.specs.declared.node_task.task.NodeTask.{NodeTask}
use Rattle.lp_master_rows.specs.node_task.Tasks.{row_count}
use Rattle.search_node_columns.specs.Columns.{IsWorkspace}
use Rattle.search_columns.specs.declared.generation.Generation.{Generation}
use Rattle.search_columns.specs.Tools.{MayGenerate}

-- there is a price of each row, and the workspace is the node's
pub record IsGeneration (t : NodeTask) (ts : List PoolTree) (h : Generation) : Type 0 where
  pub y : length h.asked.y.items ≡ row_count t
  pub workspace : IsWorkspace t.day.instance.now t.cuts.now ts h.workspace

-- the column generation is the node's, and may use the pricer and the pool
pub record IsGenerating (t : NodeTask) (p : PricerView) (ts : List PoolTree) (h : Generation) : Type 0 where
  pub may : MayGenerate t p ts
  pub generation : IsGeneration t ts h

-- it still is, and the old trees kept their numbers
pub record StayGenerating (t : NodeTask) (p : PricerView) (old new : List PoolTree) (h : Generation) : Type 0 where
  pub are : IsGenerating t p new h
  pub grown : IsGrown old new
