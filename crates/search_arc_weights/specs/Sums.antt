-- Sums of weights by the arcs of their trees, in units of 1 / d.
use Rattle.std.specs.Prelude.{ℕ, ◌≡◌, ◌<◌, ◌*◌, ◌+◌, ◌/◌, ◌^◌, Option, None, Some, List, [], length, slice_get, slice_index, unsigned_abs}
use Rattle.model_rosters.specs.declared.grammar.ArcKey.{ArcKey}
use Rattle.model_rosters.specs.Folds.{Each, count, sum_n}
use Rattle.model_rosters.specs.Arcs.{same_arc}
use Rattle.tree_pool.specs.Pools.{PoolTree}
use Rattle.search_node_columns.specs.declared.weights.Weight.{Weight}
use Rattle.search_arc_weights.specs.Denominators.{den_of}

-- a weight as a number of parts 1 / d
abbrev pub unit : ℕ → Weight → ℕ
unit d x = unsigned_abs x.x.num * (d / den_of x)

abbrev pub arcs_of_some : Option PoolTree → List ArcKey
arcs_of_some None = []
arcs_of_some (Some x) = x.arcs

-- the arcs of a tree of the pool
abbrev pub arcs_at : List PoolTree → ℕ → List ArcKey
arcs_at columns j = arcs_of_some (slice_get columns j)

-- the weight of the trees with the arc, as a number of parts 1 / d
abbrev pub arc_units : ℕ → List PoolTree → ArcKey → List Weight → ℕ
arc_units d columns a weights =
    sum_n (λ (x : Weight). unit d x * count (same_arc a) (arcs_at columns x.column)) weights

-- each sum has room for the arcs that are added to it
abbrev pub HaveRoom : List ArcKey → ℕ → List ArcKey → List ℕ → Type 0
HaveRoom listed units added sums =
    (p : ℕ) (a : ArcKey) → slice_get listed p ≡ Some a
    → slice_index sums p + units * count (same_arc a) added < 2 ^ 128

-- the units are added to the sum of each of the arcs
abbrev pub AreAdded : List ArcKey → ℕ → List ArcKey → List ℕ → List ℕ → Type 0
AreAdded listed units added old new =
    (p : ℕ) (a : ArcKey) → slice_get listed p ≡ Some a
    → slice_index new p ≡ slice_index old p + units * count (same_arc a) added

-- each weight is one of a tree of the pool, and small
abbrev pub AreInPool : ℕ → List PoolTree → List Weight → Type 0
AreInPool d columns weights =
    Each (λ (x : Weight). (x.column < length columns) × (unit d x < 2 ^ 128)) weights

-- the sums of all arcs are small
abbrev pub HaveRoomFor : ℕ → List ArcKey → List PoolTree → List Weight → Type 0
HaveRoomFor d listed columns weights =
    (p : ℕ) (a : ArcKey) → slice_get listed p ≡ Some a → arc_units d columns a weights < 2 ^ 128

-- the sums of the arcs by their places
pub record AreSums (d : ℕ) (listed : List ArcKey) (columns : List PoolTree) (weights : List Weight)
    (sums : List ℕ) : Type 0 where
  pub each : length sums ≡ length listed
  pub are : (p : ℕ) (a : ArcKey) → slice_get listed p ≡ Some a
      → slice_index sums p ≡ arc_units d columns a weights
