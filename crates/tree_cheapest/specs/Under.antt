-- Trees of the day with a given arc at the top.
use Rattle.std.specs.Prelude.{ℕ, ℤ, ◌≡◌, ◌<◌, Option, Some, IsSome, List, length, slice_get}
use Rattle.model_rosters.specs.declared.grammar.ArcKey.{ArcKey}
use Rattle.model_rosters.specs.declared.grammar.Grammar.{Grammar}
use Rattle.model_rosters.specs.Trees.{Parts, IsDayTree, steps}
use Rattle.model_rosters.specs.Sums.{PriceView, tree_sum, IsLeast}
use Rattle.model_rosters.specs.Room.{RoomView, most_uses}
use Rattle.model_rosters.specs.Sound.{IsSound}
use Rattle.model_rosters.specs.arc_laws.OrNodes.{made, root_of}
use Rattle.tree_graph.specs.Graphs.{GraphView, IsGraph}
use Rattle.tree_cheapest.specs.declared.slots.Links.{Links}
use Rattle.tree_cheapest.specs.AtNodes.{top_arc}
use Rattle.tree_cheapest.specs.Pricers.{PricerView, IsMadeFor, IsFilled}

-- a tree of the day whose first rule use and first part are those of the arc
abbrev pub IsDayTreeUnder : Grammar → ArcKey → Parts → Type 0
IsDayTreeUnder g a t = IsDayTree g t × (top_arc (root_of g) t ≡ a)

-- the arc of this number makes the start name on the whole day
pub record IsTop (g : Grammar) (v : GraphView) (arc : ℕ) (a : ArcKey) : Type 0 where
  pub at : slice_get v.arcs arc ≡ Some a
  pub makes : made g a ≡ root_of g

-- the pricer is filled for the prices, and the graph is that of the grammar
pub record IsReady (g : Grammar) (p : PriceView) (v : GraphView) (w : PricerView) : Type 0 where
  pub sound : IsSound g
  pub graph : IsGraph g v
  pub filled : IsFilled g p v w

-- of some pricer that is filled these are the links and the values
pub record AsksSum (p : PriceView) (v : GraphView) (links : Links) (values : List (Option ℤ))
    (arc : ℕ) : Type 0 where
  pub g : Grammar
  pub w : PricerView
  pub ready : IsReady g p v w
  pub made : IsMadeFor v w
  pub same_links : w.links ≡ links
  pub same_values : w.values ≡ values
  pub inside : arc < length v.arcs

-- what is asked for a tree of the day with the arc at the top: it makes the root, a sum, and room
pub record AsksTreeUnder (g : Grammar) (p : PriceView) (v : GraphView) (w : PricerView) (arc : ℕ) (a : ArcKey)
    (room : RoomView) : Type 0 where
  pub ready : IsReady g p v w
  pub top : IsTop g v arc a
  pub sum : (t : Parts) × IsDayTreeUnder g a t × IsSome (tree_sum p 1 t)
  pub space : room.most ≡ most_uses g

-- the room holds the steps of a tree of the day with the arc at the top, and no such tree has a lesser
-- sum
pub record HoldsLeastUnder (g : Grammar) (p : PriceView) (a : ArcKey) (room : RoomView) : Type 0 where
  pub tree : Parts
  pub of_day : IsDayTreeUnder g a tree
  pub least : IsLeast (IsDayTreeUnder g a) (tree_sum p 1) (tree_sum p 1 tree)
  pub held : room.steps ≡ steps 1 tree
