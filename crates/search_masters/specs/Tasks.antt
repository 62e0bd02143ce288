-- Nodes whose masters may be solved, and how they end.
use Rattle.std.specs.Prelude.{ℤ, ◌≡◌, ◌<◌, ◌^◌, Bool, List, length}
use Rattle.model_rosters.specs.declared.instance.Cut.{Cut}
use Rattle.model_rosters.specs.declared.instance.Prices.{Prices}
use Rattle.model_rosters.specs.Folds.{Each}
use Rattle.model_rosters.specs.Trees.{Parts, IsDayTree}
use Rattle.law_bounds.specs.linear_programs.Program.{IsPricedOut}
use Rattle.lp_fractions.specs.Range.{Counts}
use Rattle.lp_fractions.specs.Row.{at}
use Rattle.law_bounds.specs.Infeasible.{IsPlainlyInfeasible}
use Rattle.law_bounds.specs.master_laws.Master.{master}
use Rattle.law_bounds.specs.master_laws.Rounding.{AreRoundedFrom}
use Rattle.lp_tableaus.specs.declared.simplex.LpEnd.{LpEnd}
use Rattle.lp_tableaus.specs.Ends.{IsLpEnd}
use Rattle.tree_cheapest.specs.Pricers.{PricerView}
use Rattle.tree_pool.specs.Pools.{PoolTree}
use Rattle.lp_master_rows.specs.declared.search_day.day.Day.{Day}
use Rattle.lp_master_rows.specs.search_day.Days.{IsDay}
use Rattle.lp_master_rows.specs.declared.node_task.task.NodeTask.{NodeTask}
use Rattle.lp_master_rows.specs.node_task.Tasks.{IsTask, row_count}
use Rattle.search_node_columns.specs.declared.workspace.Held.{Held}
use Rattle.search_node_columns.specs.Columns.{HasKey}
use Rattle.search_node_columns.specs.Priced.{AreNarrowPrices}
use Rattle.search_columns.specs.Tools.{AreTools}
use Rattle.search_masters.specs.declared.ends.NodeEnd.{NodeEnd}
use Rattle.search_masters.specs.Counted.{IsCounted}
use Rattle.search_masters.specs.Ends.{IsNodeCut, FitNode, EndsRight}

-- the day has a tree and is not plainly infeasible, and each cut is one of a node
pub record IsBusyNode (d : Day) (cuts : List Cut) : Type 0 where
  pub day : IsDay d
  pub busy : IsPlainlyInfeasible d.instance.now → ⊥
  pub tree : (t : Parts) × IsDayTree d.instance.now.grammar t
  pub path : Each (IsNodeCut d.instance.now) cuts
  pub few : length cuts < 2 ^ 31

-- the same of a node whose rows are there
pub record IsBusyTask (t : NodeTask) : Type 0 where
  pub task : IsTask t
  pub node : IsBusyNode t.day t.cuts.now

-- the master may be solved with the pricer and the pool
pub record MaySolve (t : NodeTask) (p : PricerView) (ts : List PoolTree) : Type 0 where
  pub task : IsTask t
  pub node : IsBusyNode t.day t.cuts.now
  pub tools : AreTools t.day p ts

-- the master of a task, which nothing stops where it is calm, ends right for each tally that counts its end
abbrev pub EndsCounted : NodeTask → List PoolTree → Bool → NodeEnd → Type 0
EndsCounted t columns calm end = (old new : Counts) → IsCounted end old new
    → EndsRight t.day.instance.now t.cuts.now columns old new calm end

-- the path of a task's master ended so, over a pool and listed columns
abbrev pub EndsPath : NodeTask → List PoolTree → List Held → LpEnd → Type 0
EndsPath t columns held e = IsLpEnd (master t.day.instance.now t.cuts.now)
    (HasKey t.day.instance.now.grammar columns held) e.basic e.y e.kappa e.value

-- narrow prices of the rows, over kappa, at which no column has a negative reduced cost
pub record ArePathPrices (t : NodeTask) (y : List ℤ) (kappa : ℤ) : Type 0 where
  pub long : length y ≡ row_count t
  pub narrow : AreNarrowPrices y kappa
  pub out : IsPricedOut (master t.day.instance.now t.cuts.now) (at y) kappa

-- such prices, rounded from those of the rows
pub record AreRounded (t : NodeTask) (y : List ℤ) (kappa : ℤ) (p : Prices) : Type 0 where
  pub rounded : AreRoundedFrom t.day.instance.now t.cuts.now (at y) kappa p
  pub fit : FitNode t.day.instance.now t.cuts.now p
