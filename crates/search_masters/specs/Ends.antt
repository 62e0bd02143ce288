-- How the master of a node ends.
use Rattle.std.specs.Prelude.{ℕ, ℤ, pos, unsigned_abs, ◌≡◌, ◌≤◌, ◌<◌, ◌-◌, ◌^◌, ◌*ℤ◌, ◌+ℤ◌, ◌≤ℤ◌, ◌<ℤ◌, ◌⊎◌, Bool, IsTrue, None, IfSome, List, ◌++◌, length, Result, Ok, IsErr}
use Rattle.model_rosters.specs.declared.grammar.ArcKey.{ArcKey}
use Rattle.model_rosters.specs.declared.instance.Cut.{Cut}
use Rattle.model_rosters.specs.declared.instance.Instance.{Instance}
use Rattle.model_rosters.specs.declared.instance.Mult.{Mult}
use Rattle.model_rosters.specs.declared.instance.Prices.{Prices}
use Rattle.model_rosters.specs.declared.memory.Memory.{Memory as MemoryLack}
use Rattle.model_rosters.specs.Arcs.{IsArc}
use Rattle.model_rosters.specs.Folds.{Each}
use Rattle.model_rosters.specs.PriceLimits.{FitPrices}
use Rattle.model_rosters.specs.Cuts.{group_arc, Meets}
use Rattle.model_rosters.specs.Trees.{Parts, IsDayTree}
use Rattle.law_bounds.specs.linear_programs.Solution.{Weighted, IsValue, IsBasic, CostsLeast, Each as EachKey}
use Rattle.law_bounds.specs.linear_programs.Tableau.{HasWidePath, HasOpenPath}
use Rattle.lp_fractions.specs.declared.frac.Frac.{Frac}
use Rattle.lp_fractions.specs.Range.{Counts}
use Rattle.law_bounds.specs.Lagrangian.{IsLagrangian}
use Rattle.law_bounds.specs.BestPrices.{loss, IsRival, AreBest}
use Rattle.law_bounds.specs.Priced.{IsPricedValue}
use Rattle.law_bounds.specs.TreeRosters.{IsTreeRoster, trees_cost}
use Rattle.law_bounds.specs.Counted.{HaveCounts}
use Rattle.law_bounds.specs.master_laws.Rows.{rows_of}
use Rattle.law_bounds.specs.master_laws.Master.{MasterKey, missing, beyond, tree, master}
use Rattle.law_bounds.specs.master_laws.Laws.{IsBelowHeads}
use Rattle.law_bounds.specs.master_laws.Sharp.{UsesArtificial}
use Rattle.law_bounds.specs.master_laws.WholeCounts.{HasCounts}
use Rattle.law_bounds.specs.near_laws.Completed.{tree_columns}
use Rattle.law_bounds.specs.near_laws.Laws.{AreNear}
use Rattle.lp_tableaus.specs.declared.simplex.LpFault.{LpFault}
use Rattle.lp_tableaus.specs.declared.simplex.LpFault.TheVariants.{Wide as LpWide, Spent as LpSpent, Memory as LpMemory, Stopped as LpStopped}
use Rattle.lp_tableaus.specs.Risen.{HasRisen}
use Rattle.tree_pool.specs.Pools.{PoolTree}
use Rattle.search_node_columns.specs.declared.weights.Weight.{Weight}
use Rattle.search_node_columns.specs.Weights.{AreWeights, AreApart}
use Rattle.search_masters.specs.declared.ends.Cause.TheVariants.{Rows, Wide, Spent}
use Rattle.search_masters.specs.declared.ends.Solution.{Solution}
use Rattle.search_masters.specs.declared.ends.Solution.TheVariants.{Exact as is_exact, Near as is_near}
use Rattle.search_masters.specs.declared.ends.NodeEnd.{NodeEnd}
use Rattle.search_masters.specs.declared.ends.NodeEnd.TheVariants.{Best, Near, Failed, Stopped}

-- a cut on an arc of the instance, or on the arc by which some group's rule stands on the whole day
pub record IsNodeCut (i : Instance) (c : Cut) : Type 0 where
  pub arc : IsArc i.grammar c.arc ⊎ ((r : ℕ) × (length i.grammar.rules - length i.groups < r)
      × (r ≤ length i.grammar.rules) × (c.arc ≡ group_arc i.grammar.periods r))
  pub few : c.b ≤ 63

-- a column that is no tree
abbrev pub IsOther : MasterKey → Type 0
IsOther (missing r) = Unit {0}
IsOther (beyond r) = Unit {0}
IsOther (tree t) = ⊥

-- the weights are those of the trees of some basic solution of least cost, whose other columns are no trees;
-- each is one of another tree
pub record AreLeastWeights (i : Instance) (cuts : List Cut) (columns : List PoolTree)
    (weights : List Weight) : Type 0 where
  pub trees : List (Weighted MasterKey)
  pub others : List (Weighted MasterKey)
  pub d : ℕ
  pub are : AreWeights i.grammar columns d weights trees
  pub once : AreApart weights
  pub apart : Each (λ (w : Weighted MasterKey). IsOther w.key) others
  pub basic : IsBasic (master i cuts) (trees ++ others) d
  pub least : CostsLeast (master i cuts) (trees ++ others) d

-- where the arcs' weights are whole counts, trees with these counts meet the node and cost at most what
-- the prices show, unless the solution uses an artificial column
abbrev pub ClosesWhole : Instance → List Cut → Prices → List (Weighted MasterKey) → ℕ → Type 0
ClosesWhole i cuts prices ws d = (listed : List ArcKey) (value : ArcKey → ℕ) (ts : List Parts) (shown : ℕ)
    → HasCounts i cuts ws d listed value → HaveCounts i listed value ts → IsPricedValue i prices cuts shown
    → UsesArtificial i cuts ws ⊎ (IsTreeRoster i ts × Each (Meets ts) cuts × (trees_cost i ts ≤ shown))

-- rounded prices, the value of the master and the weights
pub record IsBest (i : Instance) (cuts : List Cut) (columns : List PoolTree) (prices : Prices) (value : Frac)
    (weights : List Weight) : Type 0 where
  pub fit : FitPrices i prices.d prices.cell prices.mult cuts
  pub positive : Each (λ (m : Mult). pos 0 <ℤ m.value) prices.mult
  pub value_is : IsValue (master i cuts) value.num (unsigned_abs value.den)
  pub shown : Each (IsBelowHeads i) cuts → (l : ℤ) → IsLagrangian i prices cuts l
      → (value.num *ℤ pos prices.d) ≤ℤ ((l +ℤ pos (loss i prices cuts)) *ℤ value.den)
  pub rivals : (rival : Prices) (l : ℤ) → IsRival i rival cuts → IsLagrangian i rival cuts l
      → (l *ℤ value.den) ≤ℤ (value.num *ℤ pos rival.d)
  pub best : Each (IsBelowHeads i) cuts → AreBest i prices cuts
  pub weighted : AreLeastWeights i cuts columns weights
  pub closes : Each (IsBelowHeads i) cuts
      → ClosesWhole i cuts prices (weighted.trees ++ weighted.others) weighted.d

-- rounded prices, and the weights in units of 2^-56 of trees of the day, each of another one, that show the prices
-- best: their completed cost is within the loss of what the prices show
pub record IsNear (i : Instance) (cuts : List Cut) (columns : List PoolTree) (prices : Prices)
    (weights : List Weight) : Type 0 where
  pub fit : FitPrices i prices.d prices.cell prices.mult cuts
  pub positive : Each (λ (m : Mult). pos 0 <ℤ m.value) prices.mult
  pub best : AreBest i prices cuts
  pub trees : List (Weighted Parts)
  pub day : EachKey (IsDayTree i.grammar) trees
  pub are : AreWeights i.grammar columns (2 ^ 56) weights (tree_columns trees)
  pub once : AreApart weights
  pub near : AreNear i cuts trees (2 ^ 56) prices

-- prices within the limits of the node, with no multiplier of 0
pub record FitNode (i : Instance) (cuts : List Cut) (p : Prices) : Type 0 where
  pub fit : FitPrices i p.d p.cell p.mult cuts
  pub positive : Each (λ (m : Mult). pos 0 <ℤ m.value) p.mult

-- such prices of a node with at most 1,500 rows; they need not be best
pub record AreLawful (i : Instance) (cuts : List Cut) (p : Prices) : Type 0 where
  pub few : length (rows_of i cuts) ≤ 1500
  pub fit : FitNode i cuts p

-- what is known of weights that are to be read so
abbrev pub AreSolved : Solution → Instance → List Cut → List PoolTree → List Weight → Type 0
AreSolved is_exact i cuts columns weights = AreLeastWeights i cuts columns weights
AreSolved is_near i cuts columns weights = (p : Prices) × IsNear i cuts columns p weights

-- each answer comes only where it may; more than 1,500 rows exactly where there are so many; nothing is
-- stopped where it is calm, and what is stopped is not counted, and has lawful prices or none
abbrev pub EndsRight : Instance → List Cut → List PoolTree → Counts → Counts → Bool → NodeEnd → Type 0
EndsRight i cuts columns old new calm (Best prices value weights) = (length (rows_of i cuts) ≤ 1500)
    × IsBest i cuts columns prices value weights
EndsRight i cuts columns old new calm (Near prices weights) = (length (rows_of i cuts) ≤ 1500)
    × IsNear i cuts columns prices weights × (new ≡ old)
EndsRight i cuts columns old new calm (Failed (Rows count)) = (1500 < length (rows_of i cuts))
    × (count ≡ length (rows_of i cuts))
EndsRight i cuts columns old new calm (Failed (Wide fault)) = (length (rows_of i cuts) ≤ 1500)
    × HasRisen old.wide new.wide × HasWidePath (master i cuts)
EndsRight i cuts columns old new calm (Failed (Spent pivots)) = (length (rows_of i cuts) ≤ 1500)
    × (pivots ≡ 5000) × HasRisen old.spent new.spent × HasOpenPath (master i cuts) 5000
EndsRight i cuts columns old new calm (Stopped own) = (IsTrue calm → ⊥) × (new ≡ old)
    × IfSome own (AreLawful i cuts)

-- the answer that a given-up program leads to
abbrev pub IsFailedBy : LpFault → Result NodeEnd MemoryLack → Type 0
IsFailedBy (LpWide fault) r = r ≡ Ok (Failed (Wide fault))
IsFailedBy (LpSpent pivots) r = r ≡ Ok (Failed (Spent pivots))
IsFailedBy LpMemory r = IsErr r
IsFailedBy LpStopped r = r ≡ Ok (Stopped None)
