-- One step keeps what the tableau means.
use Rattle.std.proofs.Common.{◌≡◌, ℕ, ℤ, ◌+◌, ◌<◌, arith, pos, suc, zero, ◌-ℤ◌, ◌*ℤ◌, ◌≤ℤ◌, ◌<ℤ◌, neg_ℤ, sym, refl, ap, ◌∙◌, ◌≢◌, ◌⊎◌, inl, inr, negsuc}
use Rattle.std.proofs.lemmas.Bool.{eq-eqb, ne_eqb, cases_eq}
use Rattle.law_bounds.specs.linear_programs.Program.{Column, Program, reduced}
use Rattle.law_bounds.specs.linear_programs.Tableau.{Tableau, entry, whole_row, cost_row, padded_row, IsStep}
use Rattle.law_bounds.proofs.linear_programs.TiedTableau.{IsTied}
use Rattle.law_bounds.proofs.linear_programs.RowSteps.{step_dot, factor_positive}
use Rattle.law_bounds.proofs.linear_programs.Totals.{total-same}
use Rattle.std.proofs.lemmas.Int.{ints}
use lib.IntN.{*ℤ_comm}
use Rattle.law_bounds.specs.linear_programs.Sums.{dot}
use Rattle.law_bounds.proofs.linear_programs.Ring.{*ℤ-assoc, *ℤ--ℤ, reduce, cancelled, mul_pos, mul_nonneg, pos_factor, nonneg_factor, zero_factor, same_factor}

-- ---- places of a whole row
whole_low : (m : ℕ) (f : ℕ → ℤ) (b : ℤ) (i : ℕ) → i < m → whole_row m f b i ≡ f i
whole_low m f b i h = rw (ne_eqb i m (λ e. omega arith)) refl

whole_at : (m : ℕ) (f : ℕ → ℤ) (b : ℤ) → whole_row m f b m ≡ b
whole_at m f b = rw (eq-eqb m m refl) refl

cost_low : {K : Type 0} (m : ℕ) (t : Tableau K) (i : ℕ) → i < m → cost_row m t i ≡ t.y i
cost_low m t i h = rw (ne_eqb i (m + 1) (λ e. omega arith), ne_eqb i m (λ e. omega arith)) refl

cost_value : {K : Type 0} (m : ℕ) (t : Tableau K) → cost_row m t m ≡ t.value
cost_value m t = rw (ne_eqb m (m + 1) (λ e. omega arith), eq-eqb m m refl) refl

cost_kappa : {K : Type 0} (m : ℕ) (t : Tableau K) → cost_row m t (m + 1) ≡ t.kappa
cost_kappa m t = rw (eq-eqb (m + 1) (m + 1) refl) refl

padded_low : {K : Type 0} (m : ℕ) (t : Tableau K) (r i : ℕ) → i < m → padded_row m t r i ≡ t.row r i
padded_low m t r i h = rw (ne_eqb i (m + 1) (λ e. omega arith), ne_eqb i m (λ e. omega arith)) refl

padded_value : {K : Type 0} (m : ℕ) (t : Tableau K) (r : ℕ) → padded_row m t r m ≡ t.right r
padded_value m t r = rw (ne_eqb m (m + 1) (λ e. omega arith), eq-eqb m m refl) refl

padded_kappa : {K : Type 0} (m : ℕ) (t : Tableau K) (r : ℕ) → padded_row m t r (m + 1) ≡ pos 0
padded_kappa m t r = rw (eq-eqb (m + 1) (m + 1) refl) refl

-- ---- what a step does to an entry, a right side and a reduced cost
module _ {K : Type 0} {m : ℕ} {old new : Tableau K} {key : K} {c : Column} {t : ℕ} (s : IsStep m old key c t new) where
  pub other_dot : (r : ℕ) (h : r < m) (n : r ≢ t) (v : ℕ → ℤ) → (s.rows r h n).0 *ℤ dot m (new.row r) v ≡ entry m old t c *ℤ dot m (old.row r) v -ℤ entry m old r c *ℤ dot m (old.row t) v
  other_dot r h n v =
      step_dot m _ _ _ (old.row r) (old.row t) (new.row r) v
      (λ i b. let e = (s.rows r h n).1.entries i (omega arith) in rw (whole_low m _ _ i b, whole_low m _ _ i b, whole_low m _ _ i b) at e)

  pub same_dot : (v : ℕ → ℤ) → dot m (new.row t) v ≡ dot m (old.row t) v
  same_dot v = total-same m _ _ (λ i b. ap (λ (z : ℤ). z *ℤ v i) (s.same.0 i b))

  pub other_right : (r : ℕ) (h : r < m) (n : r ≢ t) → (s.rows r h n).0 *ℤ new.right r ≡ entry m old t c *ℤ old.right r -ℤ entry m old r c *ℤ old.right t
  other_right r h n = let e = (s.rows r h n).1.entries m (omega arith) in rw (whole_at m (new.row r) _, whole_at m (old.row r) _, whole_at m (old.row t) _) at e

  pub step_y : (i : ℕ) → i < m → s.cost.0 *ℤ new.y i ≡ entry m old t c *ℤ old.y i -ℤ neg_ℤ (reduced m old.y old.kappa c) *ℤ old.row t i
  step_y i b = let e = s.cost.1.entries i (omega arith) in rw (cost_low m new i b, cost_low m old i b, padded_low m old t i b) at e

  pub step_value : s.cost.0 *ℤ new.value ≡ entry m old t c *ℤ old.value -ℤ neg_ℤ (reduced m old.y old.kappa c) *ℤ old.right t
  step_value = let e = s.cost.1.entries m (omega arith) in rw (cost_value m new, cost_value m old, padded_value m old t) at e

  pub step_kappa : s.cost.0 *ℤ new.kappa ≡ entry m old t c *ℤ old.kappa -ℤ neg_ℤ (reduced m old.y old.kappa c) *ℤ pos 0
  step_kappa = let e = s.cost.1.entries (m + 1) (omega arith) in rw (cost_kappa m new, cost_kappa m old, padded_kappa m old t) at e

  pub step_prices : (f : ℕ → ℤ) → s.cost.0 *ℤ dot m new.y f ≡ entry m old t c *ℤ dot m old.y f -ℤ neg_ℤ (reduced m old.y old.kappa c) *ℤ dot m (old.row t) f
  step_prices f = step_dot m _ _ _ old.y (old.row t) new.y f step_y

  pub step_reduced : (d : Column) → s.cost.0 *ℤ reduced m new.y new.kappa d ≡ entry m old t c *ℤ reduced m old.y old.kappa d -ℤ reduced m old.y old.kappa c *ℤ entry m old t d
  step_reduced d =
      *ℤ--ℤ s.cost.0 (new.kappa *ℤ d.cost) (dot m new.y d.entry)
      ∙ ap (λ (z : ℤ). z -ℤ s.cost.0 *ℤ dot m new.y d.entry) (sym (*ℤ-assoc s.cost.0 new.kappa d.cost))
      ∙ ap (λ (z : ℤ). z *ℤ d.cost -ℤ s.cost.0 *ℤ dot m new.y d.entry) step_kappa
      ∙ ap (λ (z : ℤ). (entry m old t c *ℤ old.kappa -ℤ neg_ℤ (reduced m old.y old.kappa c) *ℤ pos 0) *ℤ d.cost -ℤ z) (step_prices d.entry)
      ∙ reduce (entry m old t c) old.kappa (reduced m old.y old.kappa c) d.cost (dot m old.y d.entry) (entry m old t d)

-- ---- a step keeps what the numbers mean
minus_zero : (x a : ℤ) → x -ℤ a *ℤ pos 0 ≡ x
minus_zero x a = omega (arith, ints)

times_zero : (a : ℤ) → a *ℤ pos 0 ≡ pos 0
times_zero a = omega (arith, ints)

zero_minus : (p r : ℤ) (e : ℤ) → e ≡ pos 0 → p *ℤ pos 0 -ℤ r *ℤ e ≡ pos 0
zero_minus p r e h = rw h (omega (arith, ints))

-- the ratio test
kept_feasible : (p a b bt : ℤ) → pos 0 ≤ℤ b → pos 0 ≤ℤ bt → pos 0 <ℤ p → (pos 0 <ℤ a → (bt *ℤ a) ≤ℤ (b *ℤ p)) → pos 0 ≤ℤ (p *ℤ b -ℤ a *ℤ bt)
kept_feasible p (pos zero) b bt hb ht hp h = let k = mul_nonneg p b (omega (arith, ints)) hb in omega (arith, ints)
kept_feasible p (pos (suc a)) b bt hb ht hp h =
    let k = h (omega (arith, ints)) in
    let e = *ℤ_comm (pos (suc a)) bt in
    let f = *ℤ_comm p b in
    rw (e, f) (omega (arith, ints, k))
kept_feasible p (negsuc a) b bt hb ht hp h =
    let k = mul_nonneg p b (omega (arith, ints)) hb in
    let l = mul_nonneg (pos (suc a)) bt (omega (arith, ints)) ht in
    let e : neg_ℤ (negsuc a *ℤ bt) ≡ pos (suc a) *ℤ bt = omega (arith, ints) in
    omega (arith, ints)

module _ {K : Type 0} (p : Program K) {old new : Tableau K} {key : K} {t : ℕ} (tied : IsTied p old) (member : p.belongs key) (s : IsStep p.rows old key (p.column key) t new) where
  kept_right : (r : ℕ) → r < p.rows → (r ≡ t) ⊎ (r ≡ t → ⊥) → new.right r ≡ dot p.rows (new.row r) p.right
  kept_right r h (inl e) = rw e (s.same.1 ∙ tied.right t s.choice.within ∙ sym (same_dot s p.right))
  kept_right r h (inr n) =
      same_factor (s.rows r h n).0 (new.right r) (dot p.rows (new.row r) p.right) (factor_positive (s.rows r h n).1)
      (other_right s r h n
      ∙ ap (λ (z : ℤ). entry p.rows old t (p.column key) *ℤ z -ℤ entry p.rows old r (p.column key) *ℤ old.right t) (tied.right r h)
      ∙ ap (λ (z : ℤ). entry p.rows old t (p.column key) *ℤ dot p.rows (old.row r) p.right -ℤ entry p.rows old r (p.column key) *ℤ z) (tied.right t s.choice.within)
      ∙ sym (other_dot s r h n p.right))

  kept_kernel_row : (v : ℕ → ℤ) → ((r : ℕ) → r < p.rows → dot p.rows (new.row r) v ≡ pos 0) → (r : ℕ) → r < p.rows → (r ≡ t) ⊎ (r ≡ t → ⊥) → dot p.rows (old.row r) v ≡ pos 0
  kept_kernel_row v none r b (inl e) = rw e (sym (same_dot s v) ∙ none t s.choice.within)
  kept_kernel_row v none r b (inr n) =
      let here : dot p.rows (old.row t) v ≡ pos 0 = sym (same_dot s v) ∙ none t s.choice.within in
      let d = other_dot s r b n v in
      zero_factor (entry p.rows old t (p.column key)) (dot p.rows (old.row r) v) s.choice.positive
      (sym (minus_zero _ (entry p.rows old r (p.column key)))
      ∙ ap (λ (z : ℤ). entry p.rows old t (p.column key) *ℤ dot p.rows (old.row r) v -ℤ entry p.rows old r (p.column key) *ℤ z) (sym here)
      ∙ sym d ∙ ap (λ (z : ℤ). (s.rows r b n).0 *ℤ z) (none r b) ∙ times_zero (s.rows r b n).0)

  kept_feasible_row : (r : ℕ) → r < p.rows → (r ≡ t) ⊎ (r ≡ t → ⊥) → pos 0 ≤ℤ new.right r
  kept_feasible_row r h (inl e) = rw (e, s.same.1) (tied.feasible t s.choice.within)
  kept_feasible_row r h (inr n) =
      nonneg_factor (s.rows r h n).0 (new.right r) (factor_positive (s.rows r h n).1)
      (rw (other_right s r h n) (kept_feasible (entry p.rows old t (p.column key)) (entry p.rows old r (p.column key)) (old.right r) (old.right t) (tied.feasible r h) (tied.feasible t s.choice.within) s.choice.positive (s.choice.least r h)))

  -- the entries of the new basis
  kept_diagonal : (r : ℕ) → r < p.rows → (r ≡ t) ⊎ (r ≡ t → ⊥) → pos 0 <ℤ entry p.rows new r (p.column (new.basis r))
  kept_diagonal r h (inl e) = rw (e, s.basis.0, same_dot s (p.column key).entry) s.choice.positive
  kept_diagonal r h (inr n) =
      rw (s.basis.1 r h n)
      (pos_factor (s.rows r h n).0 _ (factor_positive (s.rows r h n).1)
      (rw (other_dot s r h n (p.column (old.basis r)).entry, tied.apart t r s.choice.within h (λ e. n (sym e)), minus_zero (entry p.rows old t (p.column key) *ℤ dot p.rows (old.row r) (p.column (old.basis r)).entry) (entry p.rows old r (p.column key)))
      (mul_pos _ _ s.choice.positive (tied.diagonal r h))))

  kept_apart : (r q : ℕ) → r < p.rows → q < p.rows → r ≢ q → (r ≡ t) ⊎ (r ≡ t → ⊥) → (q ≡ t) ⊎ (q ≡ t → ⊥) → entry p.rows new r (p.column (new.basis q)) ≡ pos 0
  kept_apart r q h k ne (inl e) (inl f) = absurd (ne (e ∙ sym f))
  kept_apart r q h k ne (inl e) (inr f) = rw (e, s.basis.1 q k f, same_dot s (p.column (old.basis q)).entry) (tied.apart t q s.choice.within k (λ g. f (sym g)))
  kept_apart r q h k ne (inr n) (inl f) =
      rw (f, s.basis.0)
      (zero_factor (s.rows r h n).0 _ (factor_positive (s.rows r h n).1) (other_dot s r h n (p.column key).entry ∙ cancelled (entry p.rows old t (p.column key)) (entry p.rows old r (p.column key))))
  kept_apart r q h k ne (inr n) (inr f) =
      rw (s.basis.1 q k f)
      (zero_factor (s.rows r h n).0 _ (factor_positive (s.rows r h n).1)
      (other_dot s r h n (p.column (old.basis q)).entry
      ∙ ap (λ (z : ℤ). entry p.rows old t (p.column key) *ℤ z -ℤ entry p.rows old r (p.column key) *ℤ dot p.rows (old.row t) (p.column (old.basis q)).entry) (tied.apart r q h k ne)
      ∙ zero_minus (entry p.rows old t (p.column key)) (entry p.rows old r (p.column key)) _ (tied.apart t q s.choice.within k (λ g. f (sym g)))))

  kept_tight : (r : ℕ) → r < p.rows → (r ≡ t) ⊎ (r ≡ t → ⊥) → reduced p.rows new.y new.kappa (p.column (new.basis r)) ≡ pos 0
  kept_tight r h (inl e) =
      rw (e, s.basis.0)
      (zero_factor s.cost.0 _ (factor_positive s.cost.1) (step_reduced s (p.column key) ∙ cancelled (entry p.rows old t (p.column key)) (reduced p.rows old.y old.kappa (p.column key))))
  kept_tight r h (inr n) =
      rw (s.basis.1 r h n)
      (zero_factor s.cost.0 _ (factor_positive s.cost.1)
      (step_reduced s (p.column (old.basis r))
      ∙ ap (λ (z : ℤ). entry p.rows old t (p.column key) *ℤ z -ℤ reduced p.rows old.y old.kappa (p.column key) *ℤ entry p.rows old t (p.column (old.basis r))) (tied.tight r h)
      ∙ zero_minus (entry p.rows old t (p.column key)) (reduced p.rows old.y old.kappa (p.column key)) _ (tied.apart t r s.choice.within h (λ e. n (sym e)))))

  kept_belongs : (r : ℕ) → r < p.rows → (r ≡ t) ⊎ (r ≡ t → ⊥) → p.belongs (new.basis r)
  kept_belongs r h (inl e) = rw (e, s.basis.0) member
  kept_belongs r h (inr n) = rw (s.basis.1 r h n) (tied.belongs r h)

  pub step_keeps : IsTied p new
  step_keeps = record {
    right = λ r h. kept_right r h (cases_eq r t);
    kernel = λ v none. tied.kernel v (λ r b. kept_kernel_row v none r b (cases_eq r t));
    belongs = λ r h. kept_belongs r h (cases_eq r t);
    diagonal = λ r h. kept_diagonal r h (cases_eq r t);
    apart = λ r q h k n. kept_apart r q h k n (cases_eq r t) (cases_eq q t);
    feasible = λ r h. kept_feasible_row r h (cases_eq r t);
    kappa = pos_factor s.cost.0 new.kappa (factor_positive s.cost.1) (rw (step_kappa s, minus_zero (entry p.rows old t (p.column key) *ℤ old.kappa) (neg_ℤ (reduced p.rows old.y old.kappa (p.column key)))) (mul_pos _ _ s.choice.positive tied.kappa));
    tight = λ r h. kept_tight r h (cases_eq r t);
    value = same_factor s.cost.0 new.value (dot p.rows new.y p.right) (factor_positive s.cost.1)
        (step_value s
        ∙ ap (λ (z : ℤ). entry p.rows old t (p.column key) *ℤ z -ℤ neg_ℤ (reduced p.rows old.y old.kappa (p.column key)) *ℤ old.right t) tied.value
        ∙ ap (λ (z : ℤ). entry p.rows old t (p.column key) *ℤ dot p.rows old.y p.right -ℤ neg_ℤ (reduced p.rows old.y old.kappa (p.column key)) *ℤ z) (tied.right t s.choice.within)
        ∙ sym (step_prices s p.right));
  }
