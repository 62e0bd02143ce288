-- Nodes whose master was solved, exactly or nearly.
use Rattle.std.specs.Prelude.{ℕ, pos, ◌≡◌, ◌≤◌, ◌<◌, ◌<ℤ◌, ◌++◌, List, All, length}
use Rattle.model_rosters.specs.declared.instance.Cut.{Cut}
use Rattle.model_rosters.specs.declared.instance.Instance.{Instance}
use Rattle.model_rosters.specs.declared.instance.Mult.{Mult}
use Rattle.model_rosters.specs.declared.instance.Prices.{Prices}
use Rattle.model_rosters.specs.Cuts.{base_cuts}
use Rattle.model_rosters.specs.Folds.{Each}
use Rattle.model_rosters.specs.PriceLimits.{FitPrices}
use Rattle.law_bounds.specs.BestPrices.{AreBest}
use Rattle.law_bounds.specs.Priced.{IsPricedValue}
use Rattle.lp_fractions.specs.declared.frac.Frac.{Frac}
use Rattle.law_bounds.specs.master_laws.Laws.{IsBelowHeads}
use Rattle.law_bounds.specs.master_laws.Rows.{rows_of}
use Rattle.tree_pool.specs.Pools.{PoolTree}
use Rattle.search_node_columns.specs.declared.weights.Weight.{Weight}
use Rattle.search_masters.specs.declared.ends.NodeEnd.{NodeEnd}
use Rattle.search_masters.specs.declared.ends.NodeEnd.TheVariants.{Best, Near, Failed, Stopped}
use Rattle.search_masters.specs.declared.ends.Solution.{Solution}
use Rattle.search_masters.specs.declared.ends.Solution.TheVariants.{Exact as is_exact, Near as is_near}
use Rattle.search_masters.specs.Ends.{IsBest, IsNear}
use Rattle.search_primal.specs.declared.solved.Outcome.{Outcome}
use Rattle.search_primal.specs.declared.solved.Outcome.TheVariants.{Solved as is_solved, Failed as is_failed, Stopped as is_stopped}
use Rattle.search_primal.specs.declared.solved.Solved.{Solved}

-- what comes of a master by its end
abbrev pub outcome_of : NodeEnd → Outcome
outcome_of (Best prices value weights) =
    is_solved (record { prices = prices; weights = weights; solution = is_exact })
outcome_of (Near prices weights) = is_solved (record { prices = prices; weights = weights; solution = is_near })
outcome_of (Failed cause) = is_failed cause
outcome_of (Stopped own) = is_stopped own

-- a basic solution of least cost, at some value, or one that shows the prices best
abbrev pub IsSolvedBy : Solution → Instance → List Cut → List PoolTree → Prices → List Weight → Type 0
IsSolvedBy is_exact i cuts columns prices weights =
    (value : Frac) × IsBest i cuts columns prices value weights
IsSolvedBy is_near i cuts columns prices weights = IsNear i cuts columns prices weights

-- the node's master is solved: its prices are best, the trees stand in the pool, and the weights are those of
-- such a solution
pub record IsSolved (i : Instance) (cuts : List Cut) (columns : List PoolTree) (s : Solved) : Type 0 where
  pub few : length (rows_of i cuts) ≤ 1500
  pub fit : FitPrices i s.prices.d s.prices.cell s.prices.mult cuts
  pub positive : Each (λ (m : Mult). pos 0 <ℤ m.value) s.prices.mult
  pub best : Each (IsBelowHeads i) cuts → AreBest i s.prices cuts
  pub within : All (λ (w : Weight). w.column < length columns) s.weights
  pub how : IsSolvedBy s.solution i cuts columns s.prices s.weights

-- prices that fit the cuts, with multipliers above 0, and small cuts
pub record CanShow (i : Instance) (p : Prices) (cuts : List Cut) : Type 0 where
  pub fit : FitPrices i p.d p.cell p.mult cuts
  pub positive : Each (λ (m : Mult). pos 0 <ℤ m.value) p.mult
  pub small : All (λ (c : Cut). c.b ≤ 63) cuts

-- and these are what its prices show
pub record IsShown (i : Instance) (cuts : List Cut) (columns : List PoolTree) (s : Solved) (shown : ℕ) :
    Type 0 where
  pub solved : IsSolved i cuts columns s
  pub value : IsPricedValue i s.prices cuts shown
  pub below : Each (IsBelowHeads i) cuts
  pub based : (more : List Cut) × (cuts ≡ base_cuts i ++ more)
