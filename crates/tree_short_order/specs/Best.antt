-- For each node of a graph an arc that makes it.
use Rattle.std.specs.Prelude.{ℕ, ◌≡◌, ◌<◌, List, Some, length, slice_get, slice_index}
use Rattle.tree_graph.specs.Graphs.{GraphView}
use Rattle.tree_graph.specs.declared.kid.Kid.{Kid}
use Rattle.tree_graph.specs.declared.kid.Kid.TheVariants.{Nothing, Letter, Node}

-- the arc is one of the graph, and makes the node
pub record IsMadeBy (v : GraphView) (node arc : ℕ) : Type 0 where
  pub inside : arc < length v.arcs
  pub makes : slice_get v.made_by arc ≡ Some node

-- an arc for each node, which makes it where the node stands before a place
pub record AreBestBefore (v : GraphView) (place : ℕ) (best : List ℕ) : Type 0 where
  pub count : length best ≡ length v.nodes
  pub each : (n : ℕ) → n < place → n < length v.nodes → IsMadeBy v n (slice_index best n)

-- an arc for each node, which makes it
abbrev pub AreBest : GraphView → List ℕ → Type 0
AreBest v best = AreBestBefore v (length v.nodes) best

-- the node that is below an arc, and the number of nodes where none is
abbrev pub IsNodeOf : ℕ → Kid → ℕ → Type 0
IsNodeOf nodes Nothing node = node ≡ nodes
IsNodeOf nodes (Letter code period) node = node ≡ nodes
IsNodeOf nodes (Node n) node = node ≡ n
