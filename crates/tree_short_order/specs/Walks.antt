-- What the walk down a tree asks, and what it writes.
use Rattle.std.specs.Prelude.{ℕ, ◌≡◌, ◌+◌, ◌*◌, ◌<◌, ◌≤◌, Option, None, Some, List, ◌++◌, length, slice_get}
use Rattle.model_rosters.specs.declared.grammar.ArcKey.{ArcKey}
use Rattle.model_rosters.specs.declared.grammar.Grammar.{Grammar}
use Rattle.model_rosters.specs.Trees.{Parts, steps}
use Rattle.model_rosters.specs.Room.{RoomView}
use Rattle.model_rosters.specs.Sound.{IsSound}
use Rattle.model_rosters.specs.arc_laws.OrNodes.{OrNode, made}
use Rattle.model_rosters.specs.arc_laws.AtNodes.{IsAt, start_of}
use Rattle.tree_graph.specs.Graphs.{GraphView, IsGraph}
use Rattle.tree_cheapest.specs.AtNodes.{top_arc}
use Rattle.tree_cheapest.specs.Walks.{HasRoom}
use Rattle.tree_short_order.specs.Best.{AreBest}

-- what is asked to write what stands at node m: a grammar's graph, arcs that make its nodes, and room
pub record AsksNode (v : GraphView) (best : List ℕ) (m : ℕ) (room : RoomView) : Type 0 where
  pub g : Grammar
  pub sound : IsSound g
  pub graph : IsGraph g v
  pub are_best : AreBest v best
  pub node : OrNode
  pub at : slice_get v.nodes m ≡ Some node
  pub space : HasRoom g node room

-- the steps of something that stands at the node were added
abbrev pub WritesAt : Grammar → OrNode → ℕ → RoomView → RoomView → Type 0
WritesAt g o i old new = (t : Parts) × IsAt g o t × (new ≡ record old { steps = old.steps ++ steps i t })

-- of whatever grammar it is asked
abbrev pub WritesNode : GraphView → List ℕ → ℕ → RoomView → RoomView → Type 0
WritesNode v best m old new =
    (asked : AsksNode v best m old) → WritesAt asked.g asked.node (start_of asked.node) old new

-- what is asked to write what stands below this arc: the same
pub record AsksArc (v : GraphView) (best : List ℕ) (arc : ℕ) (room : RoomView) : Type 0 where
  pub g : Grammar
  pub sound : IsSound g
  pub graph : IsGraph g v
  pub are_best : AreBest v best
  pub key : ArcKey
  pub at : slice_get v.arcs arc ≡ Some key
  pub space : HasRoom g (made g key) room

-- the steps of something that stands where the arc does, with the arc at the top, were added
abbrev pub WritesUnder : Grammar → ArcKey → RoomView → RoomView → Type 0
WritesUnder g a old new = (t : Parts) × (IsAt g (made g a) t × (top_arc (made g a) t ≡ a))
    × (new ≡ record old { steps = old.steps ++ steps a.start t })

-- of whatever grammar it is asked
abbrev pub WritesArc : GraphView → List ℕ → ℕ → RoomView → RoomView → Type 0
WritesArc v best arc old new = (asked : AsksArc v best arc old) → WritesUnder asked.g asked.key old new

-- what is below an arc is asked for where it is a node
abbrev pub AsksSlot : GraphView → List ℕ → ℕ → RoomView → Type 0
AsksSlot v best slot room = slot < length best → AsksNode v best slot room

-- and written as that, and nothing is written for another
pub record WritesSlot (v : GraphView) (best : List ℕ) (slot : ℕ) (old new : RoomView) : Type 0 where
  pub node : slot < length best → WritesNode v best slot old new
  pub other : length best ≤ slot → new ≡ old

-- How far the walk may still go down: by the place of the best arc, since an arc stands after all arcs
-- that make what it uses.
abbrev pub arc_left : ℕ → ℕ
arc_left arc = 3 * arc + 1

abbrev pub node_left : Option ℕ → ℕ
node_left None = 0
node_left (Some arc) = 3 * arc + 2

abbrev pub slot_left : Option ℕ → ℕ
slot_left None = 0
slot_left (Some arc) = 3 * arc + 3
