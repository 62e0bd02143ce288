-- Counts as a list of trees.
use Rattle.std.specs.Prelude.{ℕ, ◌≡◌, ◌+◌, List, length, map}
use Rattle.model_rosters.specs.declared.grammar.ArcKey.{ArcKey}
use Rattle.model_rosters.specs.declared.grammar.Grammar.{Grammar}
use Rattle.model_rosters.specs.declared.grammar.Step.{Step}
use Rattle.model_rosters.specs.Trees.{Parts, IsDayTree, steps}
use Rattle.model_rosters.specs.Folds.{Each}
use Rattle.model_rosters.specs.Cuts.{arc_count}
use Rattle.model_rosters.specs.Sound.{IsSound}
use Rattle.model_rosters.specs.arc_laws.OrNodes.{root_of}
use Rattle.model_rosters.specs.arc_laws.Balance.{IsBalanced}
use Rattle.tree_graph.specs.Graphs.{GraphView, IsGraph}
use Rattle.search_arc_counts.specs.roster_split.Nodes.{copies}
use Rattle.search_arc_counts.specs.roster_split.Owing.{Owes}
use Rattle.search_arc_counts.specs.roster_split.Balanced.{AreTreesOf}
use Rattle.search_arc_counts.specs.roster_split.Counts.{count_of}

-- balanced counts of the arcs of a sound grammar's graph
pub record HasBalance (v : GraphView) (counts : List ℕ) : Type 0 where
  pub g : Grammar
  pub sound : IsSound g
  pub graph : IsGraph g v
  pub each : length counts ≡ length v.arcs
  pub balanced : IsBalanced g v.arcs (count_of v.arcs counts)

-- the lists of steps are those of trees of the day with these counts, as many as the root's count
pub record IsSplit (g : Grammar) (v : GraphView) (counts : List ℕ)
    (written : List (List Step)) : Type 0 where
  pub trees : List Parts
  pub uses : written ≡ map (steps 1) trees
  pub are : AreTreesOf g v.arcs (count_of v.arcs counts) trees

-- between two trees: those that were taken, and what is left for so many more
pub record IsSplitting (g : Grammar) (v : GraphView) (counts now : List ℕ) (written : List (List Step))
    (total left : ℕ) : Type 0 where
  pub trees : List Parts
  pub uses : written ≡ map (steps 1) trees
  pub day : Each (IsDayTree g) trees
  pub number : length trees + left ≡ total
  pub taken : (a : ArcKey) → arc_count a trees + count_of v.arcs now a ≡ count_of v.arcs counts a
  pub each : length now ≡ length v.arcs
  pub owes : Owes g v.arcs (count_of v.arcs now) (copies left (root_of g))
