-- The common factor of a row, one entry at a time.
use Rattle.std.proofs.Common.{◌≡◌, ℕ, ℤ, ◌<◌, ◌+◌, arith, below_more, subst, sym, unsigned_abs, max, suc, zero}
use Rattle.std.specs.Int.{IsGcd, ◌∣◌}
use Rattle.std.proofs.lemmas.Nat.Gcd.{dvd-zero, dvd_trans}
use native.Mathlib.Nat.{eq-zero_of_zero-dvd}
use Rattle.law_bounds.specs.linear_programs.RowStep.{IsCommonFactor}

pub IsCommonFactor-none : (f : ℕ → ℤ) → IsCommonFactor f 0 0
IsCommonFactor-none f = record { divides = λ k h. absurd (omega arith); greatest = λ e h. dvd-zero e }

pub IsCommonFactor-more : (f : ℕ → ℤ) (n d e : ℕ) → IsCommonFactor f n d → IsGcd d (unsigned_abs (f n)) e → IsCommonFactor f (n + 1) e
IsCommonFactor-more f n d e c g = record {
  divides = below_more (λ k. e ∣ unsigned_abs (f k)) n (λ k h. dvd_trans e g.0 (c.divides k h)) g.1;
  greatest = λ m h. g.2 m (c.greatest m (λ k b. h k (omega arith))) (h n (omega arith));
}

-- the number that takes the common factor out of each entry
pub divides_from_factor : (f : ℕ → ℤ) (n d : ℕ) → IsCommonFactor f n d → (k : ℕ) → k < n → max 1 d ∣ unsigned_abs (f k)
divides_from_factor f n zero c k h = subst (λ m. 1 ∣ m) (sym (eq-zero_of_zero-dvd (c.divides k h))) (dvd-zero 1)
divides_from_factor f n (suc d) c k h = let e : max 1 (suc d) ≡ suc d = omega arith in rw e (c.divides k h)
