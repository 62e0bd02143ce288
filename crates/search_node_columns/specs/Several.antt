-- Several trees that are listed at the same prices.
use Rattle.std.specs.Prelude.{◌≡◌, List}
use Rattle.model_rosters.specs.declared.price_room.PriceRoom.{PriceRoom}
use Rattle.model_rosters.specs.PriceRooms.{price_view}
use Rattle.tree_cheapest.specs.Pricers.{PricerView, IsMadeFor}
use Rattle.tree_cheapest.specs.Under.{IsReady}
use Rattle.tree_pool.specs.Pools.{PoolTree, IsGrown}
use Rattle.lp_master_rows.specs.declared.node_task.task.NodeTask.{NodeTask}
use Rattle.lp_master_rows.specs.node_task.Tasks.{IsTask}
use Rattle.search_node_columns.specs.declared.workspace.ColumnWorkspace.{ColumnWorkspace}
use Rattle.search_node_columns.specs.Tools.{AreTools}

-- the pricer is the graph's, and is filled for these prices
pub record IsPricedAt (t : NodeTask) (room : PriceRoom) (p : PricerView) : Type 0 where
  pub made : IsMadeFor t.day.graph.now p
  pub ready : IsReady t.day.instance.now.grammar (price_view room) t.day.graph.now p

-- trees may be listed at the prices of the workspace
pub record HasBegun (t : NodeTask) (p : PricerView) (trees : List PoolTree) (d : ColumnWorkspace) : Type 0 where
  pub task : IsTask t
  pub priced : IsPricedAt t d.prices p
  pub tools : AreTools t p trees d

-- they still may, and the old trees of the pool kept their numbers
pub record StayPriced (t : NodeTask) (p : PricerView) (old new : List PoolTree) (d : ColumnWorkspace) : Type 0 where
  pub begun : HasBegun t p new d
  pub grown : IsGrown old new
