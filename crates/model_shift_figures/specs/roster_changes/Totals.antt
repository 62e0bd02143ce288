-- Sums over the places below a bound.
use Rattle.std.specs.Prelude.{ℕ, zero, suc, ◌+◌, Option, None, Some}

-- f 0 + .. + f (n - 1)
unfoldable pub total : ℕ → (ℕ → ℕ) → ℕ
total zero f = 0
total (suc n) f = total n f + f n

-- the price of the old shift that is taken, if there is one
unfoldable pub paid : (ℕ → ℕ) → Option ℕ → ℕ
paid q None = 0
paid q (Some i) = q i
