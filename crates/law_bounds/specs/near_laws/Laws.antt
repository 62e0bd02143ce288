-- What any solution of a master says of prices, and how weights of trees become one.
use Rattle.std.specs.Prelude.{ℕ, ℤ, pos, ◌<◌, ◌≤◌, ◌≡◌, ◌≤ℤ◌, ◌+ℤ◌, ◌*ℤ◌, List, ◌++◌, length}
use Rattle.model_rosters.specs.declared.instance.Cut.{Cut}
use Rattle.model_rosters.specs.declared.instance.Instance.{Instance}
use Rattle.model_rosters.specs.declared.instance.Prices.{Prices}
use Rattle.model_rosters.specs.Trees.{Parts, IsDayTree}
use Rattle.model_rosters.specs.Folds.{Each}
use Rattle.model_rosters.specs.SoundInstance.{IsSoundInstance}
use Rattle.law_bounds.specs.linear_programs.Solution.{Weighted, IsSolution, cost_of, Each as EachKey}
use Rattle.law_bounds.specs.Infeasible.{IsPlainlyInfeasible}
use Rattle.law_bounds.specs.Lagrangian.{IsLagrangian}
use Rattle.law_bounds.specs.BestPrices.{IsRival, AreBest, loss}
use Rattle.law_bounds.specs.Priced.{IsPricedValue}
use Rattle.law_bounds.specs.TreeRosters.{trees_cost}
use Rattle.law_bounds.specs.master_laws.Rows.{rows_of}
use Rattle.law_bounds.specs.master_laws.Master.{MasterKey, master}
use Rattle.law_bounds.specs.master_laws.WholeCounts.{MeetNode}
use Rattle.law_bounds.specs.near_laws.Completed.{IsKept, IsOwn, tree_columns, completed, completed_cost}

-- no rival's value is above the cost of any solution of the master
abbrev pub RivalsBelowSolutions : Type 0
RivalsBelowSolutions =
    (i : Instance) (cuts : List Cut) (rival : Prices) (w : ℤ) (ws : List (Weighted MasterKey)) (q : ℕ)
    → IsSoundInstance i → (IsPlainlyInfeasible i → ⊥)
    → IsRival i rival cuts → IsLagrangian i rival cuts w → IsSolution (master i cuts) ws q
    → (w *ℤ pos q) ≤ℤ (cost_of (master i cuts).column ws *ℤ pos rival.d)

-- prices whose value is within the loss of the cost of some solution are best
abbrev pub NearAreBest : Type 0
NearAreBest =
    (i : Instance) (cuts : List Cut) (p : Prices) (l : ℤ) (ws : List (Weighted MasterKey)) (q : ℕ)
    → IsSoundInstance i → (IsPlainlyInfeasible i → ⊥)
    → IsLagrangian i p cuts l → IsSolution (master i cuts) ws q
    → (cost_of (master i cuts).column ws *ℤ pos p.d) ≤ℤ ((l +ℤ pos (loss i p cuts)) *ℤ pos q)
    → AreBest i p cuts

-- weighted trees with the columns that take the rows' residuals are a solution, at the cost of both
pub record IsCompleted (i : Instance) (cuts : List Cut) (ws : List (Weighted Parts)) (q : ℕ) : Type 0 where
  pub solution : IsSolution (master i cuts) (completed i cuts q ws) q
  pub cost : cost_of (master i cuts).column (completed i cuts q ws) ≡ pos (completed_cost i cuts q ws)

-- this is so for trees of the day where no row without a column for what is beyond is exceeded
abbrev pub CompletedSolves : Type 0
CompletedSolves =
    (i : Instance) (cuts : List Cut) (ws : List (Weighted Parts)) (q : ℕ) → 0 < q
    → EachKey (IsDayTree i.grammar) ws → Each (IsKept q ws) (rows_of i cuts) → IsCompleted i cuts ws q

-- no row without a column for what is beyond is exceeded, and the completed weights cost no more than others that
-- complete the trees to a solution
pub record AreOutdone (i : Instance) (cuts : List Cut) (ws : List (Weighted Parts)) (q : ℕ)
    (own : List (Weighted MasterKey)) : Type 0 where
  pub kept : Each (IsKept q ws) (rows_of i cuts)
  pub cost : pos (completed_cost i cuts q ws) ≤ℤ cost_of (master i cuts).column (tree_columns ws ++ own)

-- this is so for each solution with these weights of trees
abbrev pub CompletedCostsLeast : Type 0
CompletedCostsLeast =
    (i : Instance) (cuts : List Cut) (ws : List (Weighted Parts)) (q : ℕ) (own : List (Weighted MasterKey))
    → EachKey IsOwn own → IsSolution (master i cuts) (tree_columns ws ++ own) q → AreOutdone i cuts ws q own

-- the value of the prices is within the loss of the cost of the completed trees, times q and the prices'
-- denominator
pub record AreNear (i : Instance) (cuts : List Cut) (ws : List (Weighted Parts)) (q : ℕ) (p : Prices) :
    Type 0 where
  pub kept : Each (IsKept q ws) (rows_of i cuts)
  pub lagrangian : ℤ
  pub is_lagrangian : IsLagrangian i p cuts lagrangian
  pub within : (pos (completed_cost i cuts q ws) *ℤ pos p.d) ≤ℤ ((lagrangian +ℤ pos (loss i p cuts)) *ℤ pos q)

-- such prices are best
abbrev pub NearTreesShowBest : Type 0
NearTreesShowBest =
    (i : Instance) (cuts : List Cut) (ws : List (Weighted Parts)) (q : ℕ) (p : Prices)
    → IsSoundInstance i → (IsPlainlyInfeasible i → ⊥) → 0 < q → EachKey (IsDayTree i.grammar) ws
    → AreNear i cuts ws q p → AreBest i p cuts

-- trees that meet the node and cost no more than such a solution cost at most what the prices show
abbrev pub NearCountsClose : Type 0
NearCountsClose =
    (i : Instance) (cuts : List Cut) (p : Prices) (l : ℤ) (ws : List (Weighted MasterKey)) (q shown : ℕ)
    (ts : List Parts) → IsSoundInstance i → length cuts ≤ 1500 → 1 ≤ q → 1 ≤ p.d → IsLagrangian i p cuts l
    → (cost_of (master i cuts).column ws *ℤ pos p.d) ≤ℤ ((l +ℤ pos (loss i p cuts)) *ℤ pos q)
    → IsPricedValue i p cuts shown → MeetNode i cuts ws q ts → trees_cost i ts ≤ shown
