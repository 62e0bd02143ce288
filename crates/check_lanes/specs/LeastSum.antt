-- The least of the sums of two lists, place by place.
use Rattle.std.specs.Prelude.{ℕ, ℤ, pos, ◌+ℤ◌, ◌≤ℤ◌, ◌<ℤ◌, ◌<◌, ◌≤◌, ◌^◌, ◌≡◌, All, List, slice_index_or, unsigned_abs}

abbrev pub sum_at : List ℤ → List ℤ → ℕ → ℤ
sum_at xs ys k = slice_index_or xs k (pos 0) +ℤ slice_index_or ys k (pos 0)

-- each entry is at most 2^61 in size, so that no sum of two leaves 64 bits
abbrev pub AreSmall : List ℤ → Type 0
AreSmall xs = All (λ z. unsigned_abs z ≤ 2 ^ 61) xs

-- v is the least of the first n sums, and j the first place that has it
pub record IsLeastSum (xs ys : List ℤ) (n : ℕ) (v : ℤ) (j : ℕ) : Type 0 where
  pub within : j < n
  pub reached : v ≡ sum_at xs ys j
  pub least : (k : ℕ) → k < n → v ≤ℤ sum_at xs ys k
  pub first : (k : ℕ) → k < j → v <ℤ sum_at xs ys k
