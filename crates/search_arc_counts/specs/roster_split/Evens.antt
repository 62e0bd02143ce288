-- Counts that no list of trees has.
use Rattle.std.specs.Prelude.{ℕ, ◌≡◌, ◌≢◌, ◌<◌, List, Some, length, slice_get}
use Rattle.model_rosters.specs.declared.grammar.Grammar.{Grammar}
use Rattle.model_rosters.specs.Sound.{IsSound}
use Rattle.model_rosters.specs.arc_laws.OrNodes.{OrNode, root_of}
use Rattle.model_rosters.specs.arc_laws.Balance.{made_sum, used_sum}
use Rattle.tree_graph.specs.Graphs.{GraphView, IsGraph}
use Rattle.search_arc_counts.specs.declared.roster_split.fault.SplitFault.{SplitFault}
use Rattle.search_arc_counts.specs.declared.roster_split.fault.SplitFault.TheVariants.{Unbalanced, Memory}
use Rattle.search_arc_counts.specs.roster_split.Counts.{count_of}

-- a graph of a sound grammar, and a count for each of its arcs
pub record HasCounts (v : GraphView) (counts : List ℕ) : Type 0 where
  pub g : Grammar
  pub sound : IsSound g
  pub graph : IsGraph g v
  pub each : length counts ≡ length v.arcs

-- the sums of the counts of the arcs that make the node, and of those that use it
abbrev pub made_at : Grammar → GraphView → List ℕ → OrNode → ℕ
made_at g v counts o = made_sum g v.arcs (count_of v.arcs counts) o

abbrev pub used_at : Grammar → GraphView → List ℕ → OrNode → ℕ
used_at g v counts o = used_sum g v.arcs (count_of v.arcs counts) o

-- the node is the root, or made as often as it is used
abbrev pub IsEven : Grammar → GraphView → List ℕ → OrNode → Type 0
IsEven g v counts o = o ≢ root_of g → made_at g v counts o ≡ used_at g v counts o

-- the first n nodes are even
abbrev pub AreEven : Grammar → GraphView → List ℕ → ℕ → Type 0
AreEven g v counts n = (m : ℕ) (o : OrNode) → m < n → slice_get v.nodes m ≡ Some o → IsEven g v counts o

-- all nodes are
abbrev pub AreAllEven : Grammar → GraphView → List ℕ → Type 0
AreAllEven g v counts = AreEven g v counts (length v.nodes)

-- the first node that is not even, with its two sums
pub record IsFirstUneven (g : Grammar) (v : GraphView) (counts : List ℕ)
    (number made used : ℕ) : Type 0 where
  pub node : OrNode
  pub at : slice_get v.nodes number ≡ Some node
  pub other : node ≢ root_of g
  pub made_is : made ≡ made_at g v counts node
  pub used_is : used ≡ used_at g v counts node
  pub uneven : made ≢ used
  pub first : AreEven g v counts number

-- the fault tells the first node that is not even
abbrev pub IsUneven : Grammar → GraphView → List ℕ → SplitFault → Type 0
IsUneven g v counts (Unbalanced node made used) = IsFirstUneven g v counts node made used
IsUneven g v counts Memory = ⊥

-- it does, or memory ran out
abbrev pub IsFault : Grammar → GraphView → List ℕ → SplitFault → Type 0
IsFault g v counts (Unbalanced node made used) = IsFirstUneven g v counts node made used
IsFault g v counts Memory = Unit {0}
