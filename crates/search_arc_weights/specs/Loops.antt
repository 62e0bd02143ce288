-- What loops over weights and sums keep.
use Rattle.std.specs.Prelude.{ℕ, ◌≡◌, ◌<◌, ◌≤◌, ◌*◌, ◌+◌, ◌^◌, Option, Some, MatchOption, List, length, drop, slice_get, slice_index}
use Rattle.std.specs.Int.{◌∣◌}
use Rattle.model_rosters.specs.declared.grammar.ArcKey.{ArcKey}
use Rattle.model_rosters.specs.Folds.{count}
use Rattle.model_rosters.specs.Arcs.{same_arc}
use Rattle.tree_pool.specs.Pools.{PoolTree}
use Rattle.search_arc_counts.specs.declared.count_boxes.bounds.Bounds.{Bounds}
use Rattle.search_arc_counts.specs.count_boxes.Boxes.{bounds_at}
use Rattle.search_node_columns.specs.declared.weights.Weight.{Weight}
use Rattle.search_arc_weights.specs.declared.choice.Candidate.{Candidate}
use Rattle.search_arc_weights.specs.Denominators.{AreOver}
use Rattle.search_arc_weights.specs.Sums.{AreInPool, arc_units}
use Rattle.search_arc_weights.specs.Choices.{IsChoice, IsLeft}

-- d is the least common denominator of the weights before place k
pub record IsCommonBefore (weights : List Weight) (k d : ℕ) : Type 0 where
  pub some : 1 ≤ d
  pub few : d ≤ 2 ^ 100
  pub whole : (m : ℕ) → d ∣ m → AreOver m (drop k weights) → AreOver m weights
  pub least : (m : ℕ) → AreOver m weights → (d ∣ m) × AreOver m (drop k weights)

-- the arcs before place k are added
pub record AreAddedBefore (listed : List ArcKey) (units : ℕ) (added : List ArcKey) (old : List ℕ) (k : ℕ)
    (new : List ℕ) : Type 0 where
  pub each : length new ≡ length old
  pub sums : (p : ℕ) (a : ArcKey) → slice_get listed p ≡ Some a
      → slice_index new p + units * count (same_arc a) (drop k added)
      ≡ slice_index old p + units * count (same_arc a) added

-- the weights before place k are summed
pub record AreSummedBefore (d : ℕ) (listed : List ArcKey) (columns : List PoolTree) (weights : List Weight)
    (k : ℕ) (sums : List ℕ) : Type 0 where
  pub each : length sums ≡ length listed
  pub left : AreInPool d columns (drop k weights)
  pub are : (p : ℕ) (a : ArcKey) → slice_get listed p ≡ Some a
      → slice_index sums p + arc_units d columns a (drop k weights) ≡ arc_units d columns a weights

-- the best of the arcs before place k
abbrev pub IsBestBefore : List Bounds → ℕ → ℕ → List ℕ → ℕ → Option Candidate → Type 0
IsBestBefore bounds d margin sums k best =
    MatchOption best ((p : ℕ) → p < k → IsLeft d margin (bounds_at bounds p).low (slice_index sums p))
    (λ c. IsChoice bounds d margin sums (c.arc, c.b))
