-- The nodes that are open while a tree is written.
use Rattle.std.specs.Prelude.{ℕ, ◌≡◌, List, [], ◌∷◌, ◌++◌, Some, slice_get}
use Rattle.model_rosters.specs.arc_laws.OrNodes.{OrNode}
use Rattle.tree_graph.specs.declared.kid.Kid.{Kid}
use Rattle.tree_graph.specs.declared.kid.Kid.TheVariants.{Nothing, Letter, Node}

-- these are the numbers of the nodes, that of the first node last
abbrev pub AreStacked : List OrNode → List ℕ → List OrNode → Type 0
AreStacked nodes numbers [] = numbers ≡ []
AreStacked nodes numbers (o ∷ os) =
    (n : ℕ) × (rest : List ℕ) × (numbers ≡ rest ++ n ∷ []) × (slice_get nodes n ≡ Some o)
    × AreStacked nodes rest os

-- the numbers with that of a kid's node, where it has one
abbrev pub pushed_kid : List ℕ → Kid → List ℕ
pushed_kid stack Nothing = stack
pushed_kid stack (Letter code period) = stack
pushed_kid stack (Node n) = stack ++ n ∷ []
