-- The weights of near trees as they stand.
use Rattle.std.specs.Prelude.{ℕ, ◌<◌, ◌≤◌, List, length}
use Rattle.search_arc_counts.specs.declared.count_boxes.bounds.Bounds.{Bounds}
use Rattle.search_arc_counts.specs.count_boxes.Boxes.{bounds_at}
use Rattle.search_arc_weights.specs.declared.raw.Open.{Open}

-- the box leaves the arc this count and the next one
pub record IsLeftBoth (bounds : List Bounds) (choice : ℕ × ℕ) : Type 0 where
  pub at : choice.0 < length bounds
  pub low : (bounds_at bounds choice.0).low ≤ choice.1
  pub high : choice.1 < (bounds_at bounds choice.0).high

abbrev pub IsOpen : List Bounds → Open → Type 0
IsOpen bounds o = IsLeftBoth bounds (o.arc, o.b)
