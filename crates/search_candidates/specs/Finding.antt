-- What is found for counts: trees, their numbers in the pool, and their roster.
use Rattle.std.specs.Prelude.{ℕ, ◌<◌, All, Option, IfSome, MatchOption, List, length}
use Rattle.model_rosters.specs.declared.instance.Instance.{Instance}
use Rattle.model_rosters.specs.Cuts.{Meets, base_cuts}
use Rattle.model_rosters.specs.Folds.{Each}
use Rattle.model_rosters.specs.Trees.{Parts}
use Rattle.law_bounds.specs.TreeRosters.{IsTreeRoster, trees_cost}
use Rattle.tree_graph.specs.Graphs.{GraphView}
use Rattle.tree_pool.specs.Pools.{PoolTree}
use Rattle.search_candidates.specs.declared.roster.Roster.{Roster}
use Rattle.search_candidates.specs.Rosters.{IsGoodRoster, AreTreesAt, CostsAtMost}
use Rattle.lp_master_rows.specs.declared.search_day.day.Day.{Day}
use Rattle.search_candidates.specs.Offers.{CanBeTrees, HaveCountsOf}

-- the columns are trees that have the counts
abbrev pub AreColumnsOf : Instance → GraphView → List ℕ → List PoolTree → List ℕ → Type 0
AreColumnsOf i v counts pool columns =
    (ts : List Parts) × HaveCountsOf i v counts ts × AreTreesAt i.grammar pool columns ts

-- such columns of the pool, none where no trees have the counts
pub record AreFoundColumns (d : Day) (counts : List ℕ) (pool : List PoolTree)
    (found : Option (List ℕ)) : Type 0 where
  pub within : IfSome found (λ columns. All (λ c. c < length pool) columns)
  pub trees : MatchOption found (CanBeTrees d.instance.now d.graph.now counts → ⊥)
      (AreColumnsOf d.instance.now d.graph.now counts pool)

-- some trees have the counts, and where they are a roster that meets the base cuts, one was found that
-- costs no more
pub record IsFoundFor (i : Instance) (v : GraphView) (counts : List ℕ) (found : Option Roster) : Type 0 where
  pub trees : List Parts
  pub have : HaveCountsOf i v counts trees
  pub cost : IsTreeRoster i trees → Each (Meets trees) (base_cuts i) → CostsAtMost (trees_cost i trees) found

-- a roster is allowed, and where the counts can be trees, it is what is found for them
pub record IsOfCounts (d : Day) (counts : List ℕ) (found : Option Roster) : Type 0 where
  pub good : IfSome found (IsGoodRoster d.instance.now)
  pub finds : CanBeTrees d.instance.now d.graph.now counts
      → IsFoundFor d.instance.now d.graph.now counts found
