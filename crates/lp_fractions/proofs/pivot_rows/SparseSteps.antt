-- A step that writes only where the other row has a number.
use Rattle.std.proofs.Common.{◌≡◌, ℕ, ℤ, zero, suc, ◌<◌, ◌≤◌, arith, List, length, get_or, pos, negsuc, ◌*ℤ◌, ◌<ℤ◌, refl, sym, ap, ◌∙◌, subst, unsigned_abs, inl, inr, ◌⊎◌}
use Rattle.std.specs.Prelude.{int_div}
use Rattle.std.specs.Int.{◌∣◌}
use Rattle.std.proofs.lemmas.Int.{ints, unsigned_abs-mul}
use native.Mathlib.Nat.{dvd-mul_right}
use Rattle.law_bounds.specs.linear_programs.RowStep.{combined}
use Rattle.law_bounds.proofs.linear_programs.Ring.{same_factor}
use Rattle.lp_fractions.proofs.Entries.{exact-quot}
use Rattle.lp_fractions.specs.Row.{at}
use Rattle.lp_fractions.specs.pivot_rows.Places.{AreListed}
use Rattle.lp_fractions.specs.pivot_rows.Quotients.{AreDivided, whole}

zero_or_not : (z : ℤ) → (z ≡ pos 0) ⊎ (z ≡ pos 0 → ⊥)
zero_or_not (pos zero) = inl refl
zero_or_not (pos (suc n)) = inr (λ e. omega (arith, ints))
zero_or_not (negsuc n) = inr (λ e. omega (arith, ints))

-- the common factor of the row times its number, taken out again
factor_back : (p r : ℤ) → pos 0 <ℤ p → int_div (p *ℤ r) p ≡ r
factor_back p r h =
    let d : unsigned_abs p ∣ unsigned_abs (p *ℤ r) = rw (unsigned_abs-mul p r) (dvd-mul_right (unsigned_abs p) (unsigned_abs r)) in
    same_factor p (int_div (p *ℤ r) p) r h (exact-quot p (p *ℤ r) d)

-- where the other row has 0
stays : (p r a s : ℤ) → pos 0 <ℤ p → s ≡ pos 0 → int_div (combined p r a s) p ≡ r
stays p r a s h e =
    let none : a *ℤ s ≡ a *ℤ pos 0 = ap (λ (z : ℤ). a *ℤ z) e in
    let same : combined p r a s ≡ p *ℤ r = omega (arith, ints) in
    ap (λ (z : ℤ). int_div z p) same ∙ factor_back p r h

-- the first i places are written, and no others
pub listed_divided : (row : List ℤ) (p : ℤ) (other : List ℤ) (a : ℤ) (places : List ℕ) (now : List ℤ) (i : ℕ) → pos 0 <ℤ p → length row ≤ length other → AreListed other (length other) places → ((j : ℕ) → j < i → at now (get_or places j 0) ≡ int_div (whole row p other a (get_or places j 0)) p) → ((k : ℕ) → ((j : ℕ) → j < i → get_or places j 0 ≡ k → ⊥) → at now k ≡ at row k) → ((j : ℕ) → j < length places → get_or places j 0 < length row → j < i) → i ≤ length places → AreDivided row p other a p now
listed_divided row p other a places now i h long listed done kept past few k b = by (zero_or_not (at other k))
  where
    by : (at other k ≡ pos 0) ⊎ (at other k ≡ pos 0 → ⊥) → at now k ≡ int_div (whole row p other a k) p
    by (inl e) =
        kept k (λ j l same. listed.counted j (omega arith) (ap (at other) same ∙ e)) ∙ sym (stays p (at row k) a (at other k) h e)
    by (inr some) =
        let found = listed.complete k (omega arith) some in
        let same = found.2 in
        let l = past found.0 found.1 (omega arith) in
        subst (λ (m : ℕ). at now m ≡ int_div (whole row p other a m) p) same (done found.0 l)

-- where place i is past the end, so is each that comes after it
pub past_end : (numbers : List ℤ) (n : ℕ) (places : List ℕ) (m i j : ℕ) → AreListed numbers n places → m ≤ get_or places i 0 → j < length places → get_or places j 0 < m → j < i
past_end numbers n places m i j listed h l k = by (grind arith)
  where
    by : (j < i) ⊎ ((i ≡ j) ⊎ (i < j)) → j < i
    by (inl a) = a
    by (inr (inl e)) = absurd (let same : get_or places i 0 ≡ get_or places j 0 = ap (λ (x : ℕ). get_or places x 0) e in omega arith)
    by (inr (inr a)) = absurd (let r = listed.rising i j a l in omega arith)
