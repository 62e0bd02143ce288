-- The numbers of a row with a zero behind it.
use Rattle.std.proofs.Common.{◌≡◌, ℕ, ℤ, zero, suc, ◌<◌, arith, pos, List, [], ◌∷◌, length, refl}
use Rattle.lp_fractions.specs.Row.{at}
use Rattle.lp_tableaus.specs.Lines.{padded}

pub padded_below : (row : List ℤ) (k : ℕ) → k < length row → at (padded row) k ≡ at row k
padded_below [] k h = absurd (omega arith)
padded_below (z ∷ row) zero h = refl
padded_below (z ∷ row) (suc k) h = padded_below row k (omega arith)

pub padded_last : (row : List ℤ) (k : ℕ) → k ≡ length row → at (padded row) k ≡ pos 0
padded_last [] zero h = refl
padded_last [] (suc k) h = absurd (omega arith)
padded_last (z ∷ row) zero h = absurd (omega arith)
padded_last (z ∷ row) (suc k) h = padded_last row k (omega arith)
