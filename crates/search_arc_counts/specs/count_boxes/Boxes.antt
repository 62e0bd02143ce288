-- What a contract sees of a box, and what a cut leaves of it.
use Rattle.std.specs.Prelude.{ℕ, ◌≡◌, ◌+◌, ◌<◌, ◌≤◌, List, length, slice_index_or}
use Rattle.model_rosters.specs.declared.instance.Instance.{Instance}
use Rattle.model_rosters.specs.declared.instance.Side.{Side}
use Rattle.model_rosters.specs.declared.instance.Side.TheVariants.{Low, High}
use Rattle.tree_graph.specs.Graphs.{GraphView}
use Rattle.check_parts.specs.pinned_part.Places.{place_count}
use Rattle.search_arc_counts.specs.declared.count_boxes.bounds.Bounds.{Bounds}

-- the bounds of the arcs by the arcs' numbers, and how many places the box has to balance counts
pub record BoxView : Type 0 where
  pub bounds : List Bounds
  pub places : ℕ

-- no arc has more than 64 trees
abbrev pub IsSmall : Bounds → Type 0
IsSmall b = (b.low ≤ 64) × (b.high ≤ 64)

-- the bounds of the arc with this number
abbrev pub bounds_at : List Bounds → ℕ → Bounds
bounds_at bounds p = slice_index_or bounds p (record { low = 0; high = 0 })

-- the counts on one side of b
abbrev pub halved : Side → ℕ → Bounds → Bounds
halved Low b bounds = record { low = bounds.low; high = b }
halved High b bounds = record { low = b + 1; high = bounds.high }

-- the box has bounds for each arc of the graph, and a place for each name, suffix and letter of the day
pub record IsBoxFor (i : Instance) (v : GraphView) (b : BoxView) : Type 0 where
  pub arcs : length b.bounds ≡ length v.arcs
  pub places : b.places ≡ place_count i.grammar

-- the box leaves each arc at most one count
abbrev pub IsPinnedBox : BoxView → Type 0
IsPinnedBox b = (p : ℕ) → p < length b.bounds → (bounds_at b.bounds p).high ≤ (bounds_at b.bounds p).low

-- the first arc of the graph to which the box leaves more than one count
pub record IsFirstOpen (b : BoxView) (p : ℕ) : Type 0 where
  pub within : p < length b.bounds
  pub loose : (bounds_at b.bounds p).low < (bounds_at b.bounds p).high
  pub first : (q : ℕ) → q < p → (bounds_at b.bounds q).high ≤ (bounds_at b.bounds q).low
