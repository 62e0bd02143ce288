-- How far the values are filled.
use Rattle.std.specs.Prelude.{ℕ, ℤ, ◌≡◌, ◌+◌, ◌+ℤ◌, ◌<◌, ◌≤◌, Option, None, Some, OnSome, List, length, slice_get, slice_index}
use Rattle.model_rosters.specs.declared.grammar.ArcKey.{ArcKey}
use Rattle.model_rosters.specs.declared.grammar.Grammar.{Grammar}
use Rattle.model_rosters.specs.Sums.{PriceView, Within, IsLeast}
use Rattle.model_rosters.specs.Sound.{IsSound}
use Rattle.model_rosters.specs.arc_laws.OrNodes.{OrNode}
use Rattle.model_rosters.specs.arc_laws.AtNodes.{IsAt}
use Rattle.tree_graph.specs.Graphs.{GraphView, IsGraph}
use Rattle.tree_cheapest.specs.declared.order.Maker.{Maker}
use Rattle.tree_cheapest.specs.declared.order.Order.{Order}
use Rattle.tree_cheapest.specs.declared.order.Row.{Row}
use Rattle.tree_cheapest.specs.declared.slots.Spot.{Spot}
use Rattle.tree_cheapest.specs.AtNodes.{sum_at, NodeLeast, top_arc}
use Rattle.tree_cheapest.specs.Extras.{number_at, AreCosts}
use Rattle.tree_cheapest.specs.Numbers.{Limits, AreSmall, AreRules}
use Rattle.tree_cheapest.specs.Orders.{code_of, IsOrder}
use Rattle.tree_cheapest.specs.Pricers.{value_at, ArePriced, IsBest}

-- the slots of nothing and of the letters have their prices, and the nodes have no value yet
pub record AreBegun (p : PriceView) (letters : List Spot) (nodes : ℕ)
    (values : List (Option ℤ)) : Type 0 where
  pub priced : ArePriced p letters nodes values
  pub none : (n : ℕ) → n < nodes → value_at values n ≡ None

-- the value of the node is the least sum of what stands there, and a best arc has it at the top
abbrev pub IsDone : Grammar → PriceView → GraphView → List (Option ℤ) → List ℕ → ℕ → Type 0
IsDone g p v values best m = (o : OrNode) → slice_get v.nodes m ≡ Some o
    → NodeLeast g p o (value_at values m)
    × OnSome (value_at values m) (IsBest g p v o (value_at values m) (slice_index best m))

-- the nodes of the first j rows of an order have their values, and all values are at most so great in size
pub record AreRowsPassed (most : ℕ) (p : PriceView) (v : GraphView) (letters : List Spot) (order : Order)
    (values : List (Option ℤ)) (best : List ℕ) (j : ℕ) : Type 0 where
  pub slots : length values ≡ length v.nodes + 1 + length letters
  pub nodes : length best ≡ length v.nodes
  pub priced : ArePriced p letters (length v.nodes) values
  pub small : AreSmall most values
  pub done : (g : Grammar) → IsSound g → IsGraph g v → (i : ℕ) (r : Row) → i < j
      → slice_get order.rows i ≡ Some r → IsDone g p v values best r.node

-- what is asked to pass the j-th row
pub record AsksRow (most : ℕ) (p : PriceView) (v : GraphView) (letters : List Spot) (order : Order)
    (values : List (Option ℤ)) (best : List ℕ) (j : ℕ) : Type 0 where
  pub order_is : IsOrder v letters order
  pub inside : j < length order.rows
  pub passed : AreRowsPassed most p v letters order values best j

-- the value is the least sum of what stands at the node of the j-th row, and the arc has it at the top
abbrev pub FindsRow : PriceView → GraphView → Order → ℕ → Option ℤ → ℕ → Type 0
FindsRow p v order j value arc = (g : Grammar) → IsSound g → IsGraph g v → (r : Row)
    → slice_get order.rows j ≡ Some r → (o : OrNode) → slice_get v.nodes r.node ≡ Some o
    → NodeLeast g p o value × OnSome value (IsBest g p v o value arc)

-- what is asked to pass it in numbers of one width, at the prices of the rules and of the arcs
pub record AsksPass (m : Limits) (p : PriceView) (v : GraphView) (letters : List Spot) (order : Order)
    (values : List (Option ℤ)) (best : List ℕ) (j : ℕ) (rules extras : List ℤ) : Type 0 where
  pub row : AsksRow m.sum p v letters order values best j
  pub rules_are : AreRules m.price p rules
  pub extras_are : AreCosts m.price p v.arcs extras

-- what an arc costs, with its rule where it is of a whole right side
abbrev pub maker_price : List ℤ → List ℤ → Maker → ℤ
maker_price rules extras x = number_at rules x.code +ℤ number_at extras x.arc

-- the slots and prices of an arc are there, and the prices are at most so great in size
pub record CanAdd (most : ℕ) (rules extras : List ℤ) (values : List (Option ℤ)) (x : Maker) : Type 0 where
  pub code_in : x.code < length rules
  pub arc_in : x.arc < length extras
  pub first_in : x.first < length values
  pub rest_in : x.rest < length values
  pub rule : Within most (number_at rules x.code)
  pub extra : Within most (number_at extras x.arc)

-- the arc and its slots are there, and its rule's code is right
pub record CanPass (arcs : List ArcKey) (values : List (Option ℤ)) (x : Maker) : Type 0 where
  pub key : ArcKey
  pub at : slice_get arcs x.arc ≡ Some key
  pub code : x.code ≡ code_of key.rule key.suffix
  pub fits : x.code ≤ 256
  pub first_in : x.first < length values
  pub rest_in : x.rest < length values

-- one of the first n arcs from a place on
abbrev pub IsAmong : List ArcKey → List Maker → ℕ → ℕ → ArcKey → Type 0
IsAmong listed makers begin n a = (i : ℕ) × (x : Maker) × (i < n)
    × (slice_get makers (begin + i) ≡ Some x) × (slice_get listed x.arc ≡ Some a)

-- the value is the least sum of what stands at the node with one of these arcs at the top, which the arc
-- is
pub record IsLeastAmong (g : Grammar) (p : PriceView) (v : GraphView) (makers : List Maker) (begin n : ℕ)
    (o : OrNode) (value : Option ℤ) (arc : ℕ) : Type 0 where
  pub least : IsLeast (λ t. IsAt g o t × IsAmong v.arcs makers begin n (top_arc o t)) (sum_at p o) value
  pub best : OnSome value (IsBest g p v o value arc)
