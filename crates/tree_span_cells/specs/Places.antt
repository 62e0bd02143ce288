-- The spans of a day in a row: by length, then by start.
use Rattle.std.specs.Prelude.{ℕ, ◌≡◌, ◌+◌, ◌-◌, zero, suc}
use Rattle.model_rosters.specs.Grammar.{InDay}

-- how many spans of a day of n periods are at most l long: n - k of them have the length k + 1
abbrev pub shorter : ℕ → ℕ → ℕ
shorter n zero = 0
shorter n (suc l) = shorter n l + (n - l)

-- how many spans come before this one
abbrev pub place_of : ℕ → ℕ → ℕ → ℕ
place_of n start len = shorter n (len - 1) + (start - 1)

-- two spans of the day have different places
abbrev pub PlacesDiffer : Type 0
PlacesDiffer =
    (n i l j m : ℕ) → InDay n i l → InDay n j m → place_of n i l ≡ place_of n j m → (i ≡ j) × (l ≡ m)
