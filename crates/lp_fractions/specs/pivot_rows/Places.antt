-- The places of a row whose numbers are not 0.
use Rattle.std.specs.Prelude.{ℕ, ℤ, pos, ◌≡◌, ◌<◌, List, length, slice_index}
use Rattle.lp_fractions.specs.Row.{at}

-- the rising places of the numbers that are not 0, below n
pub record AreListed (numbers : List ℤ) (n : ℕ) (places : List ℕ) : Type 0 where
  pub within : (i : ℕ) → i < length places → slice_index places i < n
  pub rising : (i j : ℕ) → i < j → j < length places → slice_index places i < slice_index places j
  pub counted : (i : ℕ) → i < length places → at numbers (slice_index places i) ≡ pos 0 → ⊥
  pub complete : (k : ℕ) → k < n → (at numbers k ≡ pos 0 → ⊥) →
      (i : ℕ) × (i < length places) × (slice_index places i ≡ k)
