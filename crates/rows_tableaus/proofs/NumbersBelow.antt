-- What holds below a number and at it holds below the next one.
use Rattle.std.proofs.Common.{◌≡◌, ℕ, ◌+◌, ◌<◌, ◌⊎◌, inl, inr, arith, subst, sym}

pub further : (P : ℕ → Type 0) (n : ℕ) → ((k : ℕ) → k < n → P k) → P n → (k : ℕ) → k < n + 1 → P k
further P n before last k lt = by (grind arith)
  where
    by : (k < n) ⊎ (k ≡ n) → P k
    by (inl h) = before k h
    by (inr e) = subst P (sym e) last
