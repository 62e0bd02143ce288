-- What the walk down a tree of least sum asks, and what it writes.
use Rattle.std.specs.Prelude.{ℕ, ℤ, ◌≡◌, ◌+◌, ◌*◌, ◌<◌, ◌≤◌, Option, None, Some, List, ◌++◌, length, slice_get}
use Rattle.model_rosters.specs.declared.grammar.ArcKey.{ArcKey}
use Rattle.model_rosters.specs.declared.grammar.Grammar.{Grammar}
use Rattle.model_rosters.specs.Trees.{Parts, steps}
use Rattle.model_rosters.specs.Sums.{PriceView, IsLeast}
use Rattle.model_rosters.specs.Room.{RoomView}
use Rattle.model_rosters.specs.Sound.{IsSound}
use Rattle.model_rosters.specs.tree_laws.Parts.{use_count}
use Rattle.model_rosters.specs.arc_laws.OrNodes.{OrNode}
use Rattle.model_rosters.specs.arc_laws.AtNodes.{IsAt, start_of}
use Rattle.tree_graph.specs.Graphs.{GraphView, IsGraph}
use Rattle.tree_cheapest.specs.declared.slots.Links.{Links}
use Rattle.tree_cheapest.specs.AtNodes.{sum_at, NodeLeast, top_arc}
use Rattle.tree_cheapest.specs.Pricers.{PricerView, value_at, IsMadeFor, IsFilled, IsBest}

-- there is room for the steps of all that stands at the node
abbrev pub HasRoom : Grammar → OrNode → RoomView → Type 0
HasRoom g o room = (t : Parts) → IsAt g o t → length room.steps + use_count t ≤ room.most

-- what is asked to write what stands at node m: a filled pricer of which these are the links and the best
-- arcs, a value of the node, and room
pub record AsksNode (v : GraphView) (links : Links) (best : List ℕ) (m : ℕ) (room : RoomView) : Type 0 where
  pub g : Grammar
  pub p : PriceView
  pub w : PricerView
  pub sound : IsSound g
  pub graph : IsGraph g v
  pub made : IsMadeFor v w
  pub filled : IsFilled g p v w
  pub same_links : w.links ≡ links
  pub same_best : w.best ≡ best
  pub node : OrNode
  pub at : slice_get v.nodes m ≡ Some node
  pub sum : ℤ
  pub value : value_at w.values m ≡ Some sum
  pub space : HasRoom g node room

-- the steps of what stands at the node with the least sum there were added
abbrev pub WritesAt : Grammar → PriceView → OrNode → ℕ → RoomView → RoomView → Type 0
WritesAt g p o i old new = (t : Parts) × IsAt g o t × NodeLeast g p o (sum_at p o t)
    × (new ≡ record old { steps = old.steps ++ steps i t })

-- of whatever grammar, prices and values it is asked
abbrev pub WritesNode : GraphView → Links → List ℕ → ℕ → RoomView → RoomView → Type 0
WritesNode v links best m old new =
    (asked : AsksNode v links best m old) → WritesAt asked.g asked.p asked.node (start_of asked.node) old new

-- what is asked to write what stands below this arc: a filled pricer of which these are the links and
-- the best arcs, the node that the arc makes, the least sum of what stands there with it at the top, and
-- room
pub record AsksArc (v : GraphView) (links : Links) (best : List ℕ) (arc : ℕ) (room : RoomView) : Type 0 where
  pub g : Grammar
  pub p : PriceView
  pub w : PricerView
  pub sound : IsSound g
  pub graph : IsGraph g v
  pub made : IsMadeFor v w
  pub filled : IsFilled g p v w
  pub same_links : w.links ≡ links
  pub same_best : w.best ≡ best
  pub node : OrNode
  pub value : Option ℤ
  pub chosen : IsBest g p v node value arc
  pub sum : ℤ
  pub some : value ≡ Some sum
  pub space : HasRoom g node room

-- the steps of what stands at the node with the arc at the top and the least sum of all that does
-- were added
abbrev pub WritesUnder : Grammar → PriceView → OrNode → ArcKey → ℕ → RoomView → RoomView → Type 0
WritesUnder g p o a i old new = (t : Parts) × (IsAt g o t × (top_arc o t ≡ a))
    × IsLeast (λ u. IsAt g o u × (top_arc o u ≡ a)) (sum_at p o) (sum_at p o t)
    × (new ≡ record old { steps = old.steps ++ steps i t })

-- of whatever grammar, prices and values it is asked
abbrev pub WritesArc : GraphView → Links → List ℕ → ℕ → RoomView → RoomView → Type 0
WritesArc v links best arc old new = (asked : AsksArc v links best arc old)
    → WritesUnder asked.g asked.p asked.node asked.chosen.key (start_of asked.node) old new

-- a slot that is one of a node is asked for as that
abbrev pub AsksSlot : GraphView → Links → List ℕ → ℕ → RoomView → Type 0
AsksSlot v links best slot room = slot < length best → AsksNode v links best slot room

-- and written as that, and nothing is written for another
pub record WritesSlot (v : GraphView) (links : Links) (best : List ℕ) (slot : ℕ)
    (old new : RoomView) : Type 0 where
  pub node : slot < length best → WritesNode v links best slot old new
  pub other : length best ≤ slot → new ≡ old

-- How far the walk may still go down: by the place of the best arc, since an arc stands after all arcs
-- that make what it uses.
abbrev pub arc_left : ℕ → ℕ
arc_left arc = 3 * arc + 1

abbrev pub node_left : Option ℕ → ℕ
node_left None = 0
node_left (Some arc) = 3 * arc + 2

abbrev pub slot_left : Option ℕ → ℕ
slot_left None = 0
slot_left (Some arc) = 3 * arc + 3
