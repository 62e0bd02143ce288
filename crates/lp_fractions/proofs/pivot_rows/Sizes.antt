-- How large the numbers of a step are.
use Rattle.std.proofs.Common.{ℕ, ℤ, ◌*◌, ◌≤◌, ◌^◌, arith, unsigned_abs, ◌*ℤ◌, SFits}
use Rattle.std.specs.Int.{w128}
use Rattle.std.proofs.lemmas.Int.{ints, unsigned_abs-mul, fits_signed_from_abs}
use Rattle.std.proofs.lemmas.Nat.{mul-le}
use Rattle.law_bounds.specs.linear_programs.RowStep.{combined}
use Rattle.lp_fractions.specs.Row.{EntryFits}

pub product_size : (x y : ℤ) (m n : ℕ) → unsigned_abs x ≤ m → unsigned_abs y ≤ n → unsigned_abs (x *ℤ y) ≤ m * n
product_size x y m n h k = rw (unsigned_abs-mul x y) (mul-le (unsigned_abs x) (unsigned_abs y) m n h k)

module _ (p r a s : ℤ) (hp : unsigned_abs p ≤ 2 ^ 68) (hr : unsigned_abs r ≤ 2 ^ 56) (ha : unsigned_abs a ≤ 2 ^ 68) (hs : unsigned_abs s ≤ 2 ^ 56) where
  pub combined_size : unsigned_abs (combined p r a s) ≤ 2 ^ 125
  combined_size =
      let first = product_size p r (2 ^ 68) (2 ^ 56) hp hr in
      let second = product_size a s (2 ^ 68) (2 ^ 56) ha hs in
      omega (arith, ints)

  pub entry_narrow : EntryFits p r a s
  entry_narrow =
      let first = product_size p r (2 ^ 68) (2 ^ 56) hp hr in
      let second = product_size a s (2 ^ 68) (2 ^ 56) ha hs in
      let both = combined_size in
      record { first = omega arith; second = omega arith; difference = omega arith }

pub narrow_fits : (z : ℤ) → unsigned_abs z ≤ 2 ^ 56 → SFits w128 z
narrow_fits z h = fits_signed_from_abs w128 z (omega arith)
