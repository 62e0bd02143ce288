-- An order of a graph's nodes in which each stands after those that its arcs use, with its arcs side by side.
use Rattle.std.specs.Prelude.{ℕ, zero, suc, ◌≡◌, ◌+◌, ◌<◌, ◌≤◌, List, Some, length, slice_get, slice_index}
use Rattle.model_rosters.specs.declared.grammar.ArcKey.{ArcKey}
use Rattle.tree_graph.specs.Graphs.{GraphView}
use Rattle.tree_cheapest.specs.declared.order.Maker.{Maker}
use Rattle.tree_cheapest.specs.declared.order.Order.{Order}
use Rattle.tree_cheapest.specs.declared.order.Row.{Row}
use Rattle.tree_cheapest.specs.declared.slots.Links.{Links}
use Rattle.tree_cheapest.specs.declared.slots.Spot.{Spot}
use Rattle.tree_cheapest.specs.Links.{IsLink}

-- 1 plus the number of its rule for the arc of a whole right side, 0 for any other
abbrev pub code_of : ℕ → ℕ → ℕ
code_of r zero = r + 1
code_of r (suc k) = 0

-- the arc makes the node, and these are its slots and the code of its rule
pub record IsMaker (v : GraphView) (letters : List Spot) (node : ℕ) (x : Maker) : Type 0 where
  pub link : IsLink v letters x.arc node x.first x.rest
  pub first_in : x.first < length v.nodes + 1 + length letters
  pub rest_in : x.rest < length v.nodes + 1 + length letters
  pub key : ArcKey
  pub at : slice_get v.arcs x.arc ≡ Some key
  pub code : x.code ≡ code_of key.rule key.suffix
  pub fits : x.code ≤ 256

-- the arc with the slots of what is below it and the code of its rule
pub record IsLinked (v : GraphView) (links : Links) (arc : ℕ) (x : Maker) : Type 0 where
  pub arc_is : x.arc ≡ arc
  pub first : x.first ≡ slice_index links.first arc
  pub rest : x.rest ≡ slice_index links.rest arc
  pub key : ArcKey
  pub at : slice_get v.arcs arc ≡ Some key
  pub code : x.code ≡ code_of key.rule key.suffix
  pub fits : x.code ≤ 256

-- the first n of these arcs were added
pub record AreAdded (v : GraphView) (links : Links) (arcs : List ℕ) (old new : List Maker)
    (n : ℕ) : Type 0 where
  pub count : length new ≡ length old + n
  pub kept : (k : ℕ) (x : Maker) → slice_get old k ≡ Some x → slice_get new k ≡ Some x
  pub each : (i q : ℕ) → i < n → slice_get arcs i ≡ Some q → (x : Maker)
      × (slice_get new (length old + i) ≡ Some x) × IsLinked v links q x

-- the slot is that of the node of one of the first j rows, or none of a node
abbrev pub IsEarlier : GraphView → List Row → ℕ → ℕ → Type 0
IsEarlier v rows j slot = slot < length v.nodes
    → (i : ℕ) × (r : Row) × (i < j) × (slice_get rows i ≡ Some r) × (r.node ≡ slot)

-- the j-th row: all arcs that make its node, and they use no node but those of earlier rows
pub record IsRow (v : GraphView) (letters : List Spot) (makers : List Maker) (rows : List Row) (j : ℕ)
    (row : Row) : Type 0 where
  pub node : row.node < length v.nodes
  pub arcs : List ℕ
  pub listed : slice_get v.makers row.node ≡ Some arcs
  pub count : row.end ≡ row.begin + length arcs
  pub inside : row.end ≤ length makers
  pub each : (i q : ℕ) → slice_get arcs i ≡ Some q → (x : Maker)
      × (slice_get makers (row.begin + i) ≡ Some x) × (x.arc ≡ q) × IsMaker v letters row.node x
      × IsEarlier v rows j x.first × IsEarlier v rows j x.rest

-- all arcs that make the node stand before a place
abbrev pub AreMadeBefore : GraphView → ℕ → ℕ → Type 0
AreMadeBefore v node place = (q : ℕ) → q < length v.arcs → slice_get v.made_by q ≡ Some node → q < place

-- rows in order, one for each node all of whose arcs stand before a place
pub record IsOrderBefore (v : GraphView) (letters : List Spot) (place : ℕ)
    (order : Order) : Type 0 where
  pub rows : (j : ℕ) (row : Row) → slice_get order.rows j ≡ Some row
      → IsRow v letters order.makers order.rows j row
  pub found : (m : ℕ) → m < length v.nodes → AreMadeBefore v m place → (j : ℕ) × (row : Row)
      × (slice_get order.rows j ≡ Some row) × (row.node ≡ m)

-- rows in order, one for each node of the graph
pub record IsOrder (v : GraphView) (letters : List Spot) (order : Order) : Type 0 where
  pub rows : (j : ℕ) (row : Row) → slice_get order.rows j ≡ Some row
      → IsRow v letters order.makers order.rows j row
  pub all : (m : ℕ) → m < length v.nodes → (j : ℕ) × (row : Row)
      × (slice_get order.rows j ≡ Some row) × (row.node ≡ m)
