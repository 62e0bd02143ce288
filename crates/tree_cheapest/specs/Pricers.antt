-- What a contract sees of a pricer, and what its values are.
use Rattle.std.specs.Prelude.{ℕ, ℤ, pos, ◌≡◌, ◌+◌, Option, None, Some, IfSome, OnSome, List, length, slice_get, slice_index, slice_index_or}
use Rattle.model_rosters.specs.declared.grammar.ArcKey.{ArcKey}
use Rattle.model_rosters.specs.declared.grammar.Grammar.{Grammar}
use Rattle.model_rosters.specs.Sums.{PriceView, IsLeast}
use Rattle.model_rosters.specs.Room.{RoomView, most_uses}
use Rattle.model_rosters.specs.Sound.{IsSound}
use Rattle.model_rosters.specs.tree_laws.LeastTrees.{HasDaySum}
use Rattle.model_rosters.specs.arc_laws.OrNodes.{OrNode, made}
use Rattle.model_rosters.specs.arc_laws.AtNodes.{IsAt}
use Rattle.tree_graph.specs.Graphs.{GraphView, IsGraph}
use Rattle.tree_cheapest.specs.declared.order.Order.{Order}
use Rattle.tree_cheapest.specs.declared.slots.Links.{Links}
use Rattle.tree_cheapest.specs.declared.slots.Spot.{Spot}
use Rattle.tree_cheapest.specs.AtNodes.{NodeLeast, sum_at, top_arc}
use Rattle.tree_cheapest.specs.Links.{AreLinks}
use Rattle.tree_cheapest.specs.Orders.{IsOrder}

-- the slots that the arcs join, the letters that have slots, an order of the nodes, the value in each
-- slot, and the best arc of each node; the slots of the nodes come first, then that of nothing, then
-- those of the letters
pub record PricerView : Type 0 where
  pub links : Links
  pub letters : List Spot
  pub order : Option Order
  pub values : List (Option ℤ)
  pub best : List ℕ

-- the value in a slot
abbrev pub value_at : List (Option ℤ) → ℕ → Option ℤ
value_at values slot = slice_index_or values slot None

-- the pricer was made for the graph
pub record IsMadeFor (v : GraphView) (w : PricerView) : Type 0 where
  pub links : AreLinks v w.letters w.links (length v.arcs)
  pub order : IfSome w.order (IsOrder v w.letters)
  pub slots : length w.values ≡ length v.nodes + 1 + length w.letters
  pub nodes : length w.best ≡ length v.nodes

-- the slots of nothing and of the letters have their prices, where there are so many nodes
pub record ArePriced (p : PriceView) (letters : List Spot) (nodes : ℕ)
    (values : List (Option ℤ)) : Type 0 where
  pub nothing : value_at values nodes ≡ Some (pos 0)
  pub spots : (j : ℕ) (l : Spot) → slice_get letters j ≡ Some l
      → value_at values (nodes + 1 + j) ≡ p.letter_at l.code l.period

-- the arc makes the node, and the value is the least sum of what stands there with this arc at the top
pub record IsBest (g : Grammar) (p : PriceView) (v : GraphView) (o : OrNode) (value : Option ℤ)
    (arc : ℕ) : Type 0 where
  pub key : ArcKey
  pub at : slice_get v.arcs arc ≡ Some key
  pub makes : made g key ≡ o
  pub least : IsLeast (λ t. IsAt g o t × (top_arc o t ≡ key)) (sum_at p o) value

-- each node that has a value has a best arc
abbrev pub AreBest : Grammar → PriceView → GraphView → List (Option ℤ) → List ℕ → Type 0
AreBest g p v values best =
    (n : ℕ) (o : OrNode) → slice_get v.nodes n ≡ Some o
    → OnSome (value_at values n) (IsBest g p v o (value_at values n) (slice_index best n))

-- the pricer is filled for a grammar's graph and prices: for each node its value is the least sum
-- there, or none, and a best arc has it at the top
pub record IsFilled (g : Grammar) (p : PriceView) (v : GraphView) (w : PricerView) : Type 0 where
  pub priced : ArePriced p w.letters (length v.nodes) w.values
  pub nodes : (n : ℕ) (o : OrNode) → slice_get v.nodes n ≡ Some o → NodeLeast g p o (value_at w.values n)
  pub arcs : AreBest g p v w.values w.best

-- what is asked for a tree of the day: the grammar's graph, the values of its nodes, a sum, and room
pub record AsksTree (g : Grammar) (p : PriceView) (v : GraphView) (w : PricerView)
    (room : RoomView) : Type 0 where
  pub sound : IsSound g
  pub graph : IsGraph g v
  pub filled : IsFilled g p v w
  pub sum : HasDaySum g p
  pub space : room.most ≡ most_uses g
