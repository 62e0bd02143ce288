-- What a step of elimination makes of a row.
use Rattle.std.proofs.Common.{◌≡◌, ℕ, ℤ, zero, suc, ◌*◌, ◌<◌, ◌≤◌, arith, sym, ap, ◌∙◌, refl, subst, pos, negsuc, max, unsigned_abs, ◌*ℤ◌, ◌-ℤ◌, ◌<ℤ◌}
use Rattle.std.specs.Prelude.{int_div}
use Rattle.std.proofs.lemmas.Int.{ints}
use native.Mathlib.Nat.{eq-zero_of_zero-dvd}
use Rattle.law_bounds.specs.linear_programs.RowStep.{combined, IsCommonFactor, IsRowStep}
use Rattle.law_bounds.proofs.linear_programs.Ring.{*ℤ-assoc, *ℤ--ℤ, zero_factor}
use Rattle.lp_fractions.proofs.Rows.{divides_from_factor}
use Rattle.lp_fractions.proofs.Entries.{exact-quot}
use Rattle.lp_fractions.proofs.pivot_rows.Factors.{factor_times, one_factor, same_factors, times_factor}

-- the number at k after the step, g being the common factor
abbrev pub stepped : (g p : ℤ) (row : ℕ → ℤ) (a : ℤ) (other : ℕ → ℤ) → ℕ → ℤ
stepped g p row a other k = int_div (combined p (row k) a (other k)) g

-- quotients by the common factor are the step
pub step_by_quotients : (n : ℕ) (p : ℤ) (row : ℕ → ℤ) (a : ℤ) (other : ℕ → ℤ) (d : ℕ) → IsCommonFactor (λ k. combined p (row k) a (other k)) n d → IsRowStep n p row a other (stepped (pos (max 1 d)) p row a other) (pos (max 1 d))
step_by_quotients n p row a other d x = record {
  factor = (d, x, refl);
  entries = λ k h. exact-quot (pos (max 1 d)) (combined p (row k) a (other k)) (divides_from_factor (λ k. combined p (row k) a (other k)) n d x k h);
}

-- a step exists
pub a_step : (n : ℕ) (p : ℤ) (row : ℕ → ℤ) (a : ℤ) (other : ℕ → ℤ) → (left : ℕ → ℤ) × (g : ℤ) × IsRowStep n p row a other left g
a_step n p row a other =
    let d = factor_times (λ k. combined p (row k) a (other k)) (pos 1) n (omega arith) in
    (stepped (pos (max 1 d.0)) p row a other, pos (max 1 d.0), step_by_quotients n p row a other d.0 d.1)

-- the numbers that a step leaves have no common factor above 1
pub step_primitive : (n : ℕ) (p : ℤ) (row : ℕ → ℤ) (a : ℤ) (other left : ℕ → ℤ) (g : ℤ) → IsRowStep n p row a other left g → (e : ℕ) × IsCommonFactor left n e × (e ≤ 1)
step_primitive n p row a other left g s =
    let positive : 0 < unsigned_abs g = let e = s.factor.2 in omega (arith, ints) in
    let both = factor_times left g n positive in
    let same = same_factors (λ k. g *ℤ left k) (λ k. combined p (row k) a (other k)) n (unsigned_abs g * both.0) s.entries both.2 in
    let e = one_factor (λ k. combined p (row k) a (other k)) n (unsigned_abs g * both.0) s.factor.0 same s.factor.1 in
    (both.0, both.1, small (s.factor.0) both.0 (ap (λ (z : ℤ). unsigned_abs z * both.0) (sym s.factor.2) ∙ e))
  where
    small : (d e : ℕ) → max 1 d * e ≡ d → e ≤ 1
    small zero e h = omega (arith, h)
    small (suc d) zero h = omega arith
    small (suc d) (suc zero) h = omega arith
    small (suc d) (suc (suc e)) h = absurd (omega (arith, h))

-- numbers with the common factor 0 are 0
all_zero : (f : ℕ → ℤ) (n : ℕ) → IsCommonFactor f n 0 → (k : ℕ) → k < n → f k ≡ pos 0
all_zero f n x k h = let e = eq-zero_of_zero-dvd (x.divides k h) in omega (arith, ints, e)

-- a factor of both scalars stands before the number
combined_times : (d p r a s : ℤ) → d *ℤ combined p r a s ≡ combined (d *ℤ p) r (d *ℤ a) s
combined_times d p r a s =
    *ℤ--ℤ d (p *ℤ r) (a *ℤ s) ∙ ap (λ (z : ℤ). z -ℤ d *ℤ (a *ℤ s)) (sym (*ℤ-assoc d p r)) ∙ ap (λ (z : ℤ). (d *ℤ p) *ℤ r -ℤ z) (sym (*ℤ-assoc d a s))

times_greatest : (d g : ℤ) (n : ℕ) → pos 0 <ℤ d → g ≡ pos (max 1 (suc n)) → d *ℤ g ≡ pos (max 1 (unsigned_abs d * suc n))
times_greatest (pos zero) g n h e = absurd (omega (arith, ints))
times_greatest (pos (suc d)) g n h e =
    ap (λ (z : ℤ). pos (suc d) *ℤ z) e ∙ ap pos (whole d n)
  where
    whole : (d n : ℕ) → suc d * max 1 (suc n) ≡ max 1 (suc d * suc n)
    whole d n =
        let one : max 1 (suc n) ≡ suc n = omega arith in
        let some : max 1 (suc d * suc n) ≡ suc d * suc n = omega arith in
        rw (one, some) refl
times_greatest (negsuc d) g n h e = absurd (omega (arith, ints))

still : (d l x : ℤ) → l ≡ pos 0 → x ≡ pos 0 → pos 1 *ℤ l ≡ d *ℤ x
still d l x h k = let e : d *ℤ x ≡ d *ℤ pos 0 = ap (λ (z : ℤ). d *ℤ z) k in omega (arith, ints)

-- a step with both scalars multiplied leads to the same numbers
module _ (n : ℕ) (shared : ℤ) (p : ℤ) (row : ℕ → ℤ) (a : ℤ) (other left : ℕ → ℤ) (g : ℤ) (positive : pos 0 <ℤ shared) (s : IsRowStep n p row a other left g) where
  size : 0 < unsigned_abs shared
  size = omega (arith, ints)

  factor : (d : ℕ) → IsCommonFactor (λ k. combined p (row k) a (other k)) n d → IsCommonFactor (λ k. combined (shared *ℤ p) (row k) (shared *ℤ a) (other k)) n (unsigned_abs shared * d)
  factor d x =
      same_factors (λ k. shared *ℤ combined p (row k) a (other k)) (λ k. combined (shared *ℤ p) (row k) (shared *ℤ a) (other k)) n (unsigned_abs shared * d)
      (λ k h. combined_times shared p (row k) a (other k))
      (times_factor (λ k. combined p (row k) a (other k)) shared n d size x)

  by_factor : (d : ℕ) → IsCommonFactor (λ k. combined p (row k) a (other k)) n d → g ≡ pos (max 1 d) → (G : ℤ) × IsRowStep n (shared *ℤ p) row (shared *ℤ a) other left G
  by_factor zero x e = (
    pos 1,
    record {
      factor = (unsigned_abs shared * 0, factor 0 x, omega (arith, ints));
      entries = λ k h.
          let none = all_zero (λ k. combined p (row k) a (other k)) n x k h in
          let here = s.entries k h in
          let nothing = zero_factor g (left k) (omega (arith, ints)) (here ∙ none) in
          still shared (left k) (combined p (row k) a (other k)) nothing none ∙ combined_times shared p (row k) a (other k);
    },
  )
  by_factor (suc d) x e = (
    shared *ℤ g,
    record {
      factor = (unsigned_abs shared * suc d, factor (suc d) x, times_greatest shared g d positive e);
      entries = λ k h.
          *ℤ-assoc shared g (left k) ∙ ap (λ (z : ℤ). shared *ℤ z) (s.entries k h) ∙ combined_times shared p (row k) a (other k);
    },
  )

  pub shared_step : (G : ℤ) × IsRowStep n (shared *ℤ p) row (shared *ℤ a) other left G
  shared_step = by_factor s.factor.0 s.factor.1 s.factor.2

-- a row without a common factor stays as it is where the other one counts nothing
pub step_by_nothing : (n : ℕ) (p : ℤ) (row other : ℕ → ℤ) → pos 0 <ℤ p → (d : ℕ) × IsCommonFactor row n d × (d ≤ 1) → (g : ℤ) × IsRowStep n p row (pos 0) other row g
step_by_nothing n p row other positive primitive =
    let s = shared_step n p (pos 1) row (pos 0) other row (pos 1) positive plain in
    (s.0, same p s.0 (p *ℤ pos 1) (p *ℤ pos 0) (omega (arith, ints)) (omega (arith, ints)) s.1)
  where
    once : (k : ℕ) → row k ≡ combined (pos 1) (row k) (pos 0) (other k)
    once k = omega (arith, ints)

    plain : IsRowStep n (pos 1) row (pos 0) other row (pos 1)
    plain = record {
      factor = (
        primitive.0,
        same_factors row (λ k. combined (pos 1) (row k) (pos 0) (other k)) n primitive.0 (λ k h. once k) primitive.1,
        let l = primitive.2 in omega (arith, ints),
      );
      entries = λ k h. omega (arith, ints);
    }

    same : (p g x y : ℤ) → x ≡ p → y ≡ pos 0 → IsRowStep n x row y other row g → IsRowStep n p row (pos 0) other row g
    same p g x y e f s = subst (λ (z : ℤ). IsRowStep n p row z other row g) f (subst (λ (z : ℤ). IsRowStep n z row y other row g) e s)
