-- The names that are taken by their ranks, the highest first.
use Rattle.std.specs.Prelude.{ℕ, ◌≡◌, ◌+◌, ◌<◌, ◌≤◌, ◌⊎◌, List, slice_index}

-- a name of a higher rank, or one of this rank below x
abbrev pub IsPlaced : List ℕ → ℕ → ℕ → ℕ → Type 0
IsPlaced ranks rank x y = (rank < slice_index ranks y) ⊎ ((slice_index ranks y ≡ rank) × (y < x))

-- a name that is done after so many turns over n ranks, the highest first
abbrev pub IsDone : List ℕ → ℕ → ℕ → ℕ → Type 0
IsDone ranks n turn y = n ≤ slice_index ranks y + turn
