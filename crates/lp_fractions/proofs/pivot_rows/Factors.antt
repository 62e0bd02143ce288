-- The common factor of the numbers of a row.
use Rattle.std.proofs.Common.{◌≡◌, ℕ, ℤ, zero, suc, ◌+◌, ◌*◌, ◌%◌, ◌<◌, ◌≤◌, arith, subst, sym, refl, unsigned_abs, ◌*ℤ◌}
use Rattle.std.specs.Int.{IsGcd, ◌∣◌}
use Rattle.std.proofs.lemmas.Int.{unsigned_abs-mul}
use Rattle.std.proofs.lemmas.Nat.Gcd.{dvd_antisymm, IsGcd-from_mod, IsGcd-from_zero}
use native.Mathlib.Nat.{one-dvd}
use Rattle.law_bounds.specs.linear_programs.RowStep.{IsCommonFactor}
use Rattle.lp_fractions.proofs.Rows.{IsCommonFactor-none, IsCommonFactor-more}
use Rattle.lp_fractions.proofs.CoprimeProducts.{IsGcd-times}

-- two numbers have a greatest common divisor
gcd_within : (f a b : ℕ) → b ≤ f → (g : ℕ) × IsGcd a b g
gcd_within f a zero l = (a, IsGcd-from_zero a 0 refl)
gcd_within zero a (suc b) l = absurd (omega arith)
gcd_within (suc f) a (suc b) l =
    let rest = gcd_within f (suc b) (a % suc b) (omega arith) in
    (rest.0, IsGcd-from_mod a (suc b) rest.0 rest.1)

-- numbers have a common factor, and their multiples that multiple of it
pub factor_times : (f : ℕ → ℤ) (k : ℤ) (n : ℕ) → 0 < unsigned_abs k → (d : ℕ) × IsCommonFactor f n d × IsCommonFactor (λ i. k *ℤ f i) n (unsigned_abs k * d)
factor_times f k zero h =
    let e : 0 ≡ unsigned_abs k * 0 = omega arith in
    (0, IsCommonFactor-none f, subst (IsCommonFactor (λ i. k *ℤ f i) 0) e (IsCommonFactor-none (λ i. k *ℤ f i)))
factor_times f k (suc n) h =
    let rest = factor_times f k n h in
    let g = gcd_within (unsigned_abs (f n)) rest.0 (unsigned_abs (f n)) (omega arith) in
    let times = IsGcd-times (unsigned_abs (f n)) (unsigned_abs k) rest.0 (unsigned_abs (f n)) g.0 (omega arith) h g.1 in
    let e : n + 1 ≡ suc n = omega arith in (
      g.0,
      subst (λ m. IsCommonFactor f m g.0) e (IsCommonFactor-more f n rest.0 g.0 rest.1 g.1),
      subst (λ m. IsCommonFactor (λ i. k *ℤ f i) m (unsigned_abs k * g.0)) e
          (IsCommonFactor-more (λ i. k *ℤ f i) n (unsigned_abs k * rest.0) (unsigned_abs k * g.0) rest.2
          (subst (λ m. IsGcd (unsigned_abs k * rest.0) m (unsigned_abs k * g.0)) (sym (unsigned_abs-mul k (f n))) times)),
    )

-- and only one
pub one_factor : (f : ℕ → ℤ) (n d e : ℕ) → IsCommonFactor f n d → IsCommonFactor f n e → d ≡ e
one_factor f n d e x y = dvd_antisymm (y.greatest d x.divides) (x.greatest e y.divides)

pub same_factors : (f g : ℕ → ℤ) (n d : ℕ) → ((k : ℕ) → k < n → f k ≡ g k) → IsCommonFactor f n d → IsCommonFactor g n d
same_factors f g n d e x = record {
  divides = λ k h. subst (λ (z : ℤ). d ∣ unsigned_abs z) (e k h) (x.divides k h);
  greatest = λ m h. x.greatest m (λ k b. subst (λ (z : ℤ). m ∣ unsigned_abs z) (sym (e k b)) (h k b));
}

-- the common factor of the multiples
pub times_factor : (f : ℕ → ℤ) (k : ℤ) (n d : ℕ) → 0 < unsigned_abs k → IsCommonFactor f n d → IsCommonFactor (λ i. k *ℤ f i) n (unsigned_abs k * d)
times_factor f k n d h x =
    let both = factor_times f k n h in
    subst (λ m. IsCommonFactor (λ i. k *ℤ f i) n (unsigned_abs k * m)) (one_factor f n both.0 d both.1 x) both.2

-- where the first numbers have no common factor above 1, neither have all
pub factor_one : (f : ℕ → ℤ) (m n : ℕ) → m ≤ n → IsCommonFactor f m 1 → IsCommonFactor f n 1
factor_one f m n l x = record {
  divides = λ k h. one-dvd _;
  greatest = λ e h. x.greatest e (λ k b. h k (omega arith));
}
