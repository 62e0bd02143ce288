-- The least sums lane by lane, over whole steps of eight places.
use Rattle.std.specs.Prelude.{ℕ, ℤ, pos, ◌+◌, ◌%◌, ◌^◌, ◌<◌, ◌≤◌, ◌≡◌, ◌≤ℤ◌, ◌<ℤ◌, List, slice_index, slice_index_or, length, unsigned_abs}
use Rattle.check_lanes.specs.LeastSum.{sum_at}

-- v at place j comes before w at place k: it is less, or it is equal and its place is no later
pub record IsAhead (v : ℤ) (j : ℕ) (w : ℤ) (k : ℕ) : Type 0 where
  pub most : v ≤ℤ w
  pub less : k < j → v <ℤ w

-- v is the least of the first n sums whose places have the rest i by 8, and j the first such place
pub record IsLaneLeast (xs ys : List ℤ) (n i : ℕ) (v : ℤ) (j : ℕ) : Type 0 where
  pub within : j < n
  pub reached : v ≡ sum_at xs ys j
  pub ahead : (k : ℕ) → k < n → k % 8 ≡ i → IsAhead v j (sum_at xs ys k) k

-- the lanes hold their least sums, which are small, and where the steps begin that have them
pub record AreRunning (xs ys : List ℤ) (n : ℕ) (sums : List ℤ) (starts : List ℕ) : Type 0 where
  pub sum_lanes : length sums ≡ 8
  pub start_lanes : length starts ≡ 8
  pub small : (i : ℕ) → i < 8 → unsigned_abs (slice_index_or sums i (pos 0)) ≤ 2 ^ 62
  pub least : (i : ℕ) → i < 8
      → IsLaneLeast xs ys n i (slice_index_or sums i (pos 0)) (slice_index starts i + i)
