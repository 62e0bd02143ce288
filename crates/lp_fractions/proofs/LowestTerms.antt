-- Lowest terms.
use Rattle.std.proofs.Common.{◌≡◌, ℕ, ℤ, ◌<◌, ◌≤◌, ◌*◌, arith, sym, ap, ◌∙◌, pos, negsuc, suc, zero, ◌*ℤ◌, ◌<ℤ◌, unsigned_abs, subst, inl, inr, refl}
use Rattle.std.specs.Prelude.{int_div}
use Rattle.std.specs.Int.{IsGcd, ◌∣◌}
use Rattle.std.proofs.lemmas.Int.{ints, unsigned_abs-mul}
use native.Mathlib.Nat.{one-dvd, eq-zero_of_zero-dvd, mul-dvd-mul_right, dvd_of_mul-dvd-mul_right, one-mul}
use Rattle.lp_fractions.specs.Range.{InRange}
use Rattle.lp_fractions.specs.Fraction.{IsFraction, IsSameSign}
use Rattle.lp_fractions.proofs.Entries.{exact-quot}
use Rattle.law_bounds.proofs.linear_programs.Ring.{*ℤ-assoc}
use lib.IntN.{*ℤ_comm}

pub gcd_positive : (a b g : ℕ) → IsGcd a b g → 0 < b → 0 < g
gcd_positive a b zero h p = let e = eq-zero_of_zero-dvd h.1 in absurd (omega arith)
gcd_positive a b (suc g) h p = omega arith

pub abs_positive : (z : ℤ) → (z ≡ pos 0 → ⊥) → 0 < unsigned_abs z
abs_positive (pos zero) h = absurd (h refl)
abs_positive (pos (suc n)) h = omega arith
abs_positive (negsuc n) h = omega arith

pub reduced_quot : (a b g x y : ℕ) → IsGcd a b g → 0 < g → x * g ≡ a → y * g ≡ b → IsGcd x y 1
reduced_quot a b g x y h p ea eb = (
  one-dvd x,
  one-dvd y,
  λ d dx dy.
      dvd_of_mul-dvd-mul_right d p
      (subst (λ n. d * g ∣ n) (sym (one-mul g)) (h.2 (d * g) (subst (λ n. d * g ∣ n) ea (mul-dvd-mul_right d dx g)) (subst (λ n. d * g ∣ n) eb (mul-dvd-mul_right d dy g)))),
)

factor_le : (x g a : ℕ) → x * g ≡ a → 0 < g → x ≤ a
factor_le x zero a e p = absurd (omega arith)
factor_le x (suc g) a e p = omega arith

same_sign_quot : (g d e : ℤ) → g *ℤ d ≡ e → IsSameSign g e → pos 0 <ℤ d
same_sign_quot g (pos zero) e h (inl s) = absurd (omega (arith, ints))
same_sign_quot g (pos zero) e h (inr s) = absurd (omega (arith, ints))
same_sign_quot g (pos (suc d)) e h s = omega (arith, ints)
same_sign_quot (pos g) (negsuc d) e h (inl s) = absurd (omega (arith, ints))
same_sign_quot (pos g) (negsuc d) e h (inr s) = absurd (omega (arith, ints, s.0))
same_sign_quot (negsuc g) (negsuc d) e h (inl s) = absurd (omega (arith, ints, s.0))
same_sign_quot (negsuc g) (negsuc d) e h (inr s) = absurd (omega (arith, ints))

pub sound_quot : (num den g : ℤ) → IsGcd (unsigned_abs num) (unsigned_abs den) (unsigned_abs g) → IsSameSign g den → InRange num → InRange den → (den ≡ pos 0 → ⊥) → IsFraction (int_div num g) (int_div den g)
sound_quot num den g h s rn rd ne =
    let en : g *ℤ int_div num g ≡ num = exact-quot g num h.0 in
    let ed : g *ℤ int_div den g ≡ den = exact-quot g den h.1 in
    let an : unsigned_abs (int_div num g) * unsigned_abs g ≡ unsigned_abs num = omega (arith, unsigned_abs-mul g (int_div num g), ap unsigned_abs en) in
    let ad : unsigned_abs (int_div den g) * unsigned_abs g ≡ unsigned_abs den = omega (arith, unsigned_abs-mul g (int_div den g), ap unsigned_abs ed) in
    let gp = gcd_positive _ _ _ h (abs_positive den ne) in
    let ln = factor_le _ _ _ an gp in
    let ld = factor_le _ _ _ ad gp in
    record {
      num_range = omega (arith, ln);
      den_range = omega (arith, ld);
      positive = same_sign_quot g (int_div den g) den ed s;
      reduced = reduced_quot _ _ _ _ _ h gp an ad;
    }

pub same_ratio : (num den g : ℤ) → IsGcd (unsigned_abs num) (unsigned_abs den) (unsigned_abs g) → int_div num g *ℤ den ≡ num *ℤ int_div den g
same_ratio num den g h =
    let n = int_div num g in let d = int_div den g in
    ap (λ (z : ℤ). n *ℤ z) (sym (exact-quot g den h.1)) ∙ swap n g d ∙ ap (λ (z : ℤ). z *ℤ d) (exact-quot g num h.0)
  where
    swap : (n g d : ℤ) → n *ℤ (g *ℤ d) ≡ (g *ℤ n) *ℤ d
    swap n g d = sym (*ℤ-assoc n g d) ∙ ap (λ (z : ℤ). z *ℤ d) (*ℤ_comm n g)
