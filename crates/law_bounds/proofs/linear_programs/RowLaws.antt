-- A row step and the vectors that meet its rows.
use Rattle.std.proofs.Common.{◌≡◌, ℕ, ℤ, ◌+◌, ◌<◌, arith, pos, ◌-ℤ◌, ◌*ℤ◌, ◌<ℤ◌, unsigned_abs, sym, ap, ◌∙◌, subst}
use Rattle.std.specs.Int.{◌∣◌}
use Rattle.std.proofs.lemmas.Int.{ints}
use borrow.Author.Differences.{up, down}
use Rattle.law_bounds.specs.linear_programs.Sums.{dot}
use Rattle.law_bounds.specs.linear_programs.RowStep.{combined, IsRowStep, MeetsRow}
use Rattle.law_bounds.proofs.linear_programs.Ring.{dif, dif_up, dif_add, dif_neg, dif_mul, dif_same, same_factor}
use Rattle.law_bounds.proofs.linear_programs.RowSteps.{step_dot, factor_positive}

shared' : (p p' q q' x x' a a' y y' : ℕ) → dif p p' *ℤ (dif q q' *ℤ dif x x') -ℤ dif a a' *ℤ (dif q q' *ℤ dif y y') ≡ dif q q' *ℤ (dif p p' *ℤ dif x x' -ℤ dif a a' *ℤ dif y y')
shared' p p' q q' x x' a a' y y' = simp (dif_neg, dif_add, dif_mul) (dif_same _ _ _ _ (omega arith))

-- a scalar in both terms
shared : (p q x a y : ℤ) → p *ℤ (q *ℤ x) -ℤ a *ℤ (q *ℤ y) ≡ q *ℤ (p *ℤ x -ℤ a *ℤ y)
shared p q x a y = simp dif_up at (shared' (up p) (down p) (up q) (down q) (up x) (down x) (up a) (down a) (up y) (down y))

turned' : (g g' q q' z z' : ℕ) → dif q q' *ℤ (dif g g' *ℤ dif z z') ≡ dif g g' *ℤ (dif q q' *ℤ dif z z')
turned' g g' q q' z z' = simp dif_mul (dif_same _ _ _ _ (omega arith))

-- two scalars change places
turned : (g q z : ℤ) → q *ℤ (g *ℤ z) ≡ g *ℤ (q *ℤ z)
turned g q z = simp dif_up at (turned' (up g) (down g) (up q) (down q) (up z) (down z))

module _ (m : ℕ) (p : ℤ) (row : ℕ → ℤ) (a : ℤ) (other left : ℕ → ℤ) (g : ℤ) (s : IsRowStep (m + 1) p row a other left g) (v : ℕ → ℤ) (q : ℤ) where
  low : g *ℤ dot m left v ≡ p *ℤ dot m row v -ℤ a *ℤ dot m other v
  low = step_dot m g p a row other left v (λ i h. s.entries i (omega arith))

  -- q times the combination of the right sides
  high : p *ℤ (q *ℤ row m) -ℤ a *ℤ (q *ℤ other m) ≡ g *ℤ (q *ℤ left m)
  high = shared p q (row m) a (other m) ∙ ap (λ (z : ℤ). q *ℤ z) (sym (s.entries m (omega arith))) ∙ turned g q (left m)

  pub step_meets : MeetsRow m row v q → MeetsRow m other v q → MeetsRow m left v q
  step_meets x y =
      same_factor g (dot m left v) (q *ℤ left m) (factor_positive s)
      (low ∙ ap (λ (z : ℤ). p *ℤ z -ℤ a *ℤ dot m other v) x ∙ ap (λ (z : ℤ). p *ℤ (q *ℤ row m) -ℤ a *ℤ z) y ∙ high)

  pub step_met : pos 0 <ℤ p → MeetsRow m left v q → MeetsRow m other v q → MeetsRow m row v q
  step_met h x y =
      let e : g *ℤ dot m left v ≡ g *ℤ (q *ℤ left m) = ap (λ (z : ℤ). g *ℤ z) x in
      let f : a *ℤ dot m other v ≡ a *ℤ (q *ℤ other m) = ap (λ (z : ℤ). a *ℤ z) y in
      same_factor p (dot m row v) (q *ℤ row m) h (let k = low in let l = high in omega (arith, ints))

-- rows with the same numbers take the same step
pub same_step : (n : ℕ) (p : ℤ) (row row' : ℕ → ℤ) (a : ℤ) (other other' left left' : ℕ → ℤ) (g : ℤ) → IsRowStep n p row a other left g → ((k : ℕ) → k < n → row k ≡ row' k) → ((k : ℕ) → k < n → other k ≡ other' k) → ((k : ℕ) → k < n → left k ≡ left' k) → IsRowStep n p row' a other' left' g
same_step n p row row' a other other' left left' g s er eo el = record {
  factor = (
    s.factor.0,
    record {
      divides = λ k h. subst (λ (z : ℤ). s.factor.0 ∣ unsigned_abs z) (same k h) (s.factor.1.divides k h);
      greatest = λ e h. s.factor.1.greatest e (λ k b. subst (λ (z : ℤ). e ∣ unsigned_abs z) (sym (same k b)) (h k b));
    },
    s.factor.2,
  );
  entries = λ k h. ap (λ (z : ℤ). g *ℤ z) (sym (el k h)) ∙ s.entries k h ∙ same k h;
}
  where
    same : (k : ℕ) → k < n → combined p (row k) a (other k) ≡ combined p (row' k) a (other' k)
    same k h = ap (λ (z : ℤ). p *ℤ z -ℤ a *ℤ other k) (er k h) ∙ ap (λ (z : ℤ). p *ℤ row' k -ℤ a *ℤ z) (eo k h)
