-- Rows divided by their common factor are those of the step.
use Rattle.std.proofs.Common.{◌≡◌, ℕ, ℤ, zero, suc, ◌*◌, ◌≤◌, arith, List, length, pos, negsuc, max, ◌*ℤ◌, ◌<ℤ◌, ◌≤ℤ◌, refl, sym, ap, ◌∙◌, subst, unsigned_abs}
use Rattle.std.specs.Int.{IsGcd}
use Rattle.std.proofs.lemmas.Int.{ints, unsigned_abs-mul}
use Rattle.std.proofs.lemmas.Nat.{mul-le}
use native.Mathlib.Nat.{eq-zero_of_zero-dvd}
use Rattle.law_bounds.specs.linear_programs.RowStep.{IsCommonFactor, IsRowStep}
use Rattle.law_bounds.proofs.linear_programs.RowLaws.{same_step}
use Rattle.lp_fractions.specs.Row.{at}
use Rattle.lp_fractions.specs.pivot_rows.Rows.{IsPrimitive, IsWideStep, StepsTo}
use Rattle.lp_fractions.specs.pivot_rows.Quotients.{AreDivided, IsWideDivided, whole}
use Rattle.lp_fractions.proofs.pivot_rows.Steps.{shared_step, step_by_nothing, step_by_quotients, step_primitive, stepped}

module _ (p : ℤ) (row : List ℤ) (a : ℤ) (other : List ℤ) (d : ℕ) (x : IsCommonFactor (whole row p other a) (length row) d) (g : ℤ) (e : g ≡ pos (max 1 d)) where
  by_quotients : IsRowStep (length row) p (at row) a (at other) (stepped g p (at row) a (at other)) g
  by_quotients =
      let s = step_by_quotients (length row) p (at row) a (at other) d x in
      subst (λ (z : ℤ). IsRowStep (length row) p (at row) a (at other) (stepped z p (at row) a (at other)) z) (sym e) s

  pub divided_steps : (left : List ℤ) → AreDivided row p other a g left → StepsTo row p other a left
  divided_steps left h = (g, same_step (length row) p (at row) (at row) a (at other) (at other) (stepped g p (at row) a (at other)) (at left) g by_quotients (λ k b. refl) (λ k b. refl) (λ k b. sym (h k b)))

  pub divided_wide : IsWideDivided row p other a g → IsWideStep row p other a
  divided_wide w = record {
    left = stepped g p (at row) a (at other);
    factor = g;
    step = by_quotients;
    place = w.0;
    within = w.1;
    wide = w.2;
  }

pub left_primitive : (p : ℤ) (row : List ℤ) (a : ℤ) (other left : List ℤ) → length left ≡ length row → StepsTo row p other a left → IsPrimitive left
left_primitive p row a other left e s =
    subst (λ n. (d : ℕ) × IsCommonFactor (at left) n d × (d ≤ 1)) (sym e)
    (step_primitive (length row) p (at row) a (at other) (at left) s.0 s.1)

-- a positive factor of both scalars leaves the step as it is
module _ (row other : List ℤ) (shared p a p' a' : ℤ) (positive : pos 0 <ℤ shared) (e : shared *ℤ p' ≡ p) (f : shared *ℤ a' ≡ a) where
  multiplied : (left : ℕ → ℤ) (g : ℤ) → IsRowStep (length row) p' (at row) a' (at other) left g → (G : ℤ) × IsRowStep (length row) p (at row) a (at other) left G
  multiplied left g s =
      subst (λ (z : ℤ). (G : ℤ) × IsRowStep (length row) z (at row) a (at other) left G) e
      (subst (λ (z : ℤ). (G : ℤ) × IsRowStep (length row) (shared *ℤ p') (at row) z (at other) left G) f
      (shared_step (length row) shared p' (at row) a' (at other) left g positive s))

  pub shared_steps : (left : List ℤ) → StepsTo row p' other a' left → StepsTo row p other a left
  shared_steps left s = multiplied (at left) s.0 s.1

  pub shared_wide : IsWideStep row p' other a' → IsWideStep row p other a
  shared_wide w =
      let s = multiplied w.left w.factor w.step in
      record { left = w.left; factor = s.0; step = s.1; place = w.place; within = w.within; wide = w.wide }

-- a number above 0 has a greatest common divisor above 0
pub shared_positive : (f e s : ℤ) → pos 0 <ℤ f → pos 0 ≤ℤ s → IsGcd (unsigned_abs f) (unsigned_abs e) (unsigned_abs s) → pos 0 <ℤ s
shared_positive f e (pos zero) h k g = let none = eq-zero_of_zero-dvd g.0 in absurd (omega (arith, ints, none))
shared_positive f e (pos (suc s)) h k g = omega (arith, ints)
shared_positive f e (negsuc s) h k g = absurd (omega (arith, ints))

-- an exact quotient is no larger
pub quotient_size : (s q n : ℤ) → pos 0 <ℤ s → s *ℤ q ≡ n → unsigned_abs q ≤ unsigned_abs n
quotient_size s q n h e =
    let same : unsigned_abs n ≡ unsigned_abs s * unsigned_abs q = sym (ap unsigned_abs e) ∙ unsigned_abs-mul s q in
    let some : 1 ≤ unsigned_abs s = omega (arith, ints) in
    let less = mul-le 1 (unsigned_abs q) (unsigned_abs s) (unsigned_abs q) some (omega arith) in
    omega (arith, same, less)

-- where the other row counts nothing the row stays as it is
pub still_steps : (p : ℤ) (row other : List ℤ) (a : ℤ) → pos 0 <ℤ p → a ≡ pos 0 → IsPrimitive row → StepsTo row p other a row
still_steps p row other a h e primitive =
    subst (λ (z : ℤ). StepsTo row p other z row) (sym e) (step_by_nothing (length row) p (at row) (at other) h primitive)
