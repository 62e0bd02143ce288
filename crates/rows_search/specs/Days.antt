-- What masters ask of the days of these rows, and of what is lent to them.
use Rattle.std.specs.Prelude.{ℕ, ◌≡◌, ◌≤◌, List, Some, slice_get}
use Rattle.model_rosters.specs.declared.instance.Cut.{Cut}
use Rattle.model_rosters.specs.declared.instance.Instance.{Instance}
use Rattle.model_rosters.specs.SoundInstance.{IsSoundInstance}
use Rattle.model_rosters.specs.Trees.{Parts, IsDayTree}
use Rattle.law_bounds.specs.Infeasible.{IsPlainlyInfeasible}
use Rattle.tree_graph.specs.Graphs.{GraphView}
use Rattle.tree_cheapest.specs.Pricers.{PricerView, IsMadeFor}
use Rattle.tree_pool.specs.Pools.{PoolTree, IsPool}

-- the day is sound, has a tree, and is not plainly infeasible
pub record IsMasterDay (i : Instance) : Type 0 where
  pub sound : IsSoundInstance i
  pub busy : IsPlainlyInfeasible i → ⊥
  pub tree : (t : Parts) × IsDayTree i.grammar t

-- the pricer was made for the graph, and the pool has trees of the day
pub record AreLent (i : Instance) (v : GraphView) (p : PricerView) (pool : List PoolTree) : Type 0 where
  pub pricer : IsMadeFor v p
  pub trees : IsPool i.grammar pool

-- the cut is on an arc of the graph
pub record IsListedCut (v : GraphView) (c : Cut) : Type 0 where
  pub place : ℕ
  pub at : slice_get v.arcs place ≡ Some c.arc
  pub few : c.b ≤ 63
