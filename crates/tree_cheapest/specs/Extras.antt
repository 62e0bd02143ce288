-- What each arc of a graph costs in a pass, by its place.
use Rattle.std.specs.Prelude.{ℕ, ℤ, pos, ◌≡◌, ◌+ℤ◌, ◌<◌, ◌≤◌, ◌⊎◌, List, Some, length, slice_get, slice_index_or}
use Rattle.model_rosters.specs.declared.arc_prices.ArcPrice.{ArcPrice}
use Rattle.model_rosters.specs.declared.grammar.ArcKey.{ArcKey}
use Rattle.model_rosters.specs.RoomPrices.{entry_price}
use Rattle.model_rosters.specs.Sums.{PriceView, Within}

-- the number at a place, 0 behind the last one
abbrev pub number_at : List ℤ → ℕ → ℤ
number_at numbers k = slice_index_or numbers k (pos 0)

-- each is at most so great in size
abbrev pub AreWithin : ℕ → List ℤ → Type 0
AreWithin most numbers = (k : ℕ) → Within most (number_at numbers k)

-- so many numbers, and all are 0
pub record AreFree (many : ℕ) (numbers : List ℤ) : Type 0 where
  pub count : length numbers ≡ many
  pub each : (k : ℕ) → number_at numbers k ≡ pos 0

-- the numbers of all arcs are 0 but of those whose places stand from one position on and before another
abbrev pub AreFreeBut : List ℕ → ℕ → ℕ → List ℤ → Type 0
AreFreeBut places from to numbers = (k : ℕ) → (number_at numbers k ≡ pos 0)
    ⊎ ((i : ℕ) × (from ≤ i) × (i < to) × (slice_get places i ≡ Some k))

-- the number of each arc is what it costs, at most so great in size
pub record AreCosts (most : ℕ) (p : PriceView) (arcs : List ArcKey) (numbers : List ℤ) : Type 0 where
  pub count : length numbers ≡ length arcs
  pub each : (k : ℕ) (a : ArcKey) → slice_get arcs k ≡ Some a → number_at numbers k ≡ p.arc_of a
  pub small : AreWithin most numbers

-- the price of an entry was added to the number of its arc
abbrev pub IsAdded : List ArcKey → ArcPrice → List ℤ → List ℤ → Type 0
IsAdded arcs x old new = (k : ℕ) (a : ArcKey) → slice_get arcs k ≡ Some a
    → number_at new k ≡ number_at old k +ℤ entry_price a x
