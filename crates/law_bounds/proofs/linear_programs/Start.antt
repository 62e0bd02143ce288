-- The first tableau of a program is tied to it.
use Rattle.std.proofs.Common.{◌≡◌, ℕ, ℤ, ◌<◌, ◌≤◌, ◌≢◌, arith, pos, suc, zero, ◌+ℤ◌, ◌*ℤ◌, refl, sym, ap, ◌∙◌, ◌⊎◌, inl, inr, subst}
use Rattle.std.proofs.lemmas.Int.{ints}
use Rattle.std.proofs.lemmas.Bool.{eq-eqb, ne_eqb, cases_eq}
use Rattle.law_bounds.specs.linear_programs.Sums.{dot}
use Rattle.law_bounds.specs.linear_programs.Program.{Program, IsSound, unit_vector}
use Rattle.law_bounds.specs.linear_programs.Tableau.{Tableau, IsStart, entry}
use Rattle.law_bounds.proofs.linear_programs.TiedTableau.{IsTied}
use Rattle.law_bounds.proofs.linear_programs.Totals.{total-same, total-zero, dot-comm, dot-same_right}

unit_here : (r : ℕ) → unit_vector r r ≡ pos 1
unit_here r = rw (eq-eqb r r refl) refl

unit_other : (r i : ℕ) → r ≢ i → unit_vector r i ≡ pos 0
unit_other r i n = rw (ne_eqb r i n) refl

unit_past : (n r : ℕ) (v : ℕ → ℤ) → n ≤ r → dot n (unit_vector r) v ≡ pos 0
unit_past n r v h = total-same n _ _ (λ i b. ap (λ (z : ℤ). z *ℤ v i) (unit_other r i (λ e. omega arith)) ∙ omega (arith, ints)) ∙ total-zero n

pub dot-unit : (n r : ℕ) (v : ℕ → ℤ) → r < n → dot n (unit_vector r) v ≡ v r
dot-unit zero r v h = absurd (omega arith)
dot-unit (suc n) r v h = by (λ l. dot-unit n r v l) (cases_eq r n)
  where
    by : (r < n → dot n (unit_vector r) v ≡ v r) → (r ≡ n) ⊎ (r ≡ n → ⊥) → dot n (unit_vector r) v +ℤ unit_vector r n *ℤ v n ≡ v r
    by rec (inl e) = rw (e, unit_here n, unit_past n n v (omega arith)) (omega (arith, ints))
    by rec (inr ne) = rw (unit_other r n ne, rec (omega arith)) (omega (arith, ints))

module _ {K : Type 0} (p : Program K) (t : Tableau K) (sound : IsSound p) (s : IsStart p t) where
  -- a row of the start sees the number at its place
  row_is : (r : ℕ) (v : ℕ → ℤ) → r < p.rows → dot p.rows (t.row r) v ≡ v r
  row_is r v h = total-same p.rows _ _ (λ i b. ap (λ (z : ℤ). z *ℤ v i) (s.rows r i h b)) ∙ dot-unit p.rows r v h

  basis_entry : (r q : ℕ) → r < p.rows → q < p.rows → entry p.rows t r (p.column (t.basis q)) ≡ unit_vector q r
  basis_entry r q h k = row_is r (p.column (t.basis q)).entry h ∙ ap (λ (b : K). (p.column b).entry r) (s.basis q k) ∙ sound.units q r k h

  pub start_tied : IsTied p t
  start_tied = record {
    right = λ r h. s.right r h ∙ sym (row_is r p.right h);
    kernel = λ v none i h. sym (row_is i v h) ∙ none i h;
    belongs = λ r h. subst (λ (b : K). p.belongs b) (sym (s.basis r h)) (sound.belongs r h);
    diagonal = λ r h. let e = basis_entry r r h h ∙ unit_here r in omega (arith, ints);
    apart = λ r q h k n. basis_entry r q h k ∙ unit_other q r (λ e. n (sym e));
    feasible = λ r h. rw (s.right r h) (sound.right r h);
    kappa = let e = s.kappa in omega (arith, ints);
    tight = λ r h.
        let seen = dot-same_right p.rows t.y (p.column (p.unit r)).entry (unit_vector r) (λ i b. sound.units r i h b) ∙ dot-comm p.rows t.y (unit_vector r) ∙ dot-unit p.rows r t.y h ∙ s.y r h in
        rw (s.basis r h, s.kappa, seen) (omega (arith, ints));
    value = s.value;
  }
