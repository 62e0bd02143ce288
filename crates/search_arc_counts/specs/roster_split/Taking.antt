-- What is asked to take an arc, and a tree, from what is left of counts.
use Rattle.std.specs.Prelude.{ℕ, ◌≡◌, ◌≤◌, ◌+◌, ◌-◌, List, ◌∷◌, Some, length, slice_get, slice_index, slice_set}
use Rattle.model_rosters.specs.declared.grammar.ArcKey.{ArcKey}
use Rattle.model_rosters.specs.declared.grammar.Grammar.{Grammar}
use Rattle.model_rosters.specs.declared.grammar.Step.{Step}
use Rattle.model_rosters.specs.Trees.{Parts, IsDayTree, steps}
use Rattle.model_rosters.specs.Folds.{count, sum_n}
use Rattle.model_rosters.specs.Arcs.{arcs, same_arc}
use Rattle.model_rosters.specs.Sound.{IsSound}
use Rattle.model_rosters.specs.arc_laws.OrNodes.{OrNode, made, root_of}
use Rattle.tree_graph.specs.Graphs.{GraphView, IsGraph}
use Rattle.search_arc_counts.specs.roster_split.Owing.{Owes}
use Rattle.search_arc_counts.specs.roster_split.Filling.{Walking}
use Rattle.search_arc_counts.specs.roster_split.Counts.{count_of}
use Rattle.search_arc_counts.specs.roster_split.Stacks.{AreStacked}

-- what stands at a node is owed
pub record AsksArc (v : GraphView) (left : List ℕ) (number : ℕ) : Type 0 where
  pub g : Grammar
  pub sound : IsSound g
  pub graph : IsGraph g v
  pub node : OrNode
  pub at : slice_get v.nodes number ≡ Some node
  pub each : length left ≡ length v.arcs
  pub pending : List OrNode
  pub owes : Owes g v.arcs (count_of v.arcs left) (node ∷ pending)

-- an arc that makes the node was taken once
pub record TakesArc (g : Grammar) (v : GraphView) (node : OrNode) (old new : List ℕ)
    (arc : ℕ) : Type 0 where
  pub key : ArcKey
  pub at : slice_get v.arcs arc ≡ Some key
  pub makes : made g key ≡ node
  pub some : 1 ≤ slice_index old arc
  pub taken : new ≡ slice_set old arc (slice_index old arc - 1)

-- a tree of the day is owed, and what else is pending
pub record AsksTree (v : GraphView) (left : List ℕ) (root : ℕ) : Type 0 where
  pub g : Grammar
  pub sound : IsSound g
  pub graph : IsGraph g v
  pub at : slice_get v.nodes root ≡ Some (root_of g)
  pub each : length left ≡ length v.arcs
  pub pending : List OrNode
  pub owes : Owes g v.arcs (count_of v.arcs left) (root_of g ∷ pending)

-- the steps are those of a tree of the day that was taken
pub record TakesTree (g : Grammar) (v : GraphView) (pending : List OrNode) (old new : List ℕ)
    (written : List Step) : Type 0 where
  pub tree : Parts
  pub day : IsDayTree g tree
  pub uses : written ≡ steps 1 tree
  pub counts : (a : ArcKey)
      → count (same_arc a) (arcs 1 tree) + count_of v.arcs new a ≡ count_of v.arcs old a
  pub owes : Owes g v.arcs (count_of v.arcs new) pending
  pub each : length new ≡ length v.arcs

-- between two arcs of a tree
pub record IsTaking (g : Grammar) (v : GraphView) (pending : List OrNode) (old now stack : List ℕ)
    (written : List Step) : Type 0 where
  pub open_nodes : List OrNode
  pub stacked : AreStacked v.nodes stack open_nodes
  pub each : length now ≡ length v.arcs
  pub walking : Walking g v.arcs (root_of g) (count_of v.arcs old) (count_of v.arcs now) open_nodes
      pending written

-- how much is left
abbrev pub total : List ℕ → ℕ
total left = sum_n (λ n. n) left
