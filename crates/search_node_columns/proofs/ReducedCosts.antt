-- Reduced costs of listed columns.
use Rattle.std.proofs.Common.{◌≡◌, ℕ, ℤ, zero, suc, arith, pos, negsuc, ◌+ℤ◌, ◌*ℤ◌, ◌≤ℤ◌, ◌<ℤ◌, ◌+◌, ◌<◌, ◌≤◌, ◌^◌, unsigned_abs, List, [], ◌∷◌, length, drop, get_or, refl, sym, ap, ◌∙◌, subst, ◌⊎◌, inl, inr, Some}
use Rattle.std.proofs.lemmas.Int.{ints}
use Rattle.std.proofs.lemmas.Option.{same_Some}
use Rattle.std.specs.Prelude.{slice_get}
use Rattle.std.proofs.Math.Seq.{drop-cons}
use Rattle.model_rosters.specs.Folds.{Each}
use Rattle.lp_fractions.specs.Row.{at}
use Rattle.law_bounds.proofs.linear_programs.Ring.{mul_nonneg}
use Rattle.law_bounds.proofs.master_laws.Numbers.{times_mono}
use Rattle.lp_fractions.specs.declared.pivot_rows.column.Place.{Place}
use Rattle.search_node_columns.specs.declared.workspace.Held.{Held}
use Rattle.search_node_columns.specs.Priced.{places_worth, listed_reduced}

-- the worth of the places from k on
pub worth_next : (y : List ℤ) (ps : List Place) (k : ℕ) (d : Place) → k < length ps
    → places_worth y (drop k ps) ≡ at y (get_or ps k d).row *ℤ (get_or ps k d).value +ℤ places_worth y (drop (k + 1) ps)
worth_next y ps k d h =
    let e : places_worth y (drop k ps) ≡ places_worth y (get_or ps k d ∷ drop (suc k) ps) = ap (λ (xs : List Place). places_worth y xs) (drop-cons ps k d h) in
    let n : suc k ≡ k + 1 = omega arith in
    let f : places_worth y (drop (suc k) ps) ≡ places_worth y (drop (k + 1) ps) = ap (λ (n : ℕ). places_worth y (drop n ps)) n in
    omega (arith, ints, e, f)

pub each_next : (P : Place → Type 0) (ps : List Place) (k : ℕ) (d : Place) → k < length ps → Each P (drop k ps) → P (get_or ps k d) × Each P (drop (k + 1) ps)
each_next P ps k d h e =
    let n : suc k ≡ k + 1 = omega arith in
    let x : Each P (get_or ps k d ∷ drop (suc k) ps) = subst (λ (xs : List Place). Each P xs) (drop-cons ps k d h) e in
    (x.0, subst (λ (n : ℕ). Each P (drop n ps)) n x.1)

pub worth_none : (y : List ℤ) (ps : List Place) (k : ℕ) → length ps ≤ k → places_worth y (drop k ps) ≡ pos 0
worth_none y [] zero h = refl
worth_none y [] (suc k) h = refl
worth_none y (p ∷ ps) zero h = absurd (omega arith)
worth_none y (p ∷ ps) (suc k) h = worth_none y ps k (omega arith)

-- kappa times a cost
pub cost_within : (kappa cost : ℤ) → pos 0 <ℤ kappa → unsigned_abs kappa ≤ 2 ^ 56 → pos 0 ≤ℤ cost → cost ≤ℤ pos (2 ^ 39)
    → (pos 0 ≤ℤ (kappa *ℤ cost)) × ((kappa *ℤ cost) ≤ℤ pos (2 ^ 95))
cost_within (pos k) (pos c) a b d e =
    let m = times_mono (pos k) c (2 ^ 39) (omega (arith, ints)) (omega (arith, ints)) in
    let z = mul_nonneg (pos k) (pos c) (omega (arith, ints)) (omega (arith, ints)) in
    (z, omega (arith, ints))
cost_within (negsuc k) c a b d e = absurd (omega (arith, ints))
cost_within (pos k) (negsuc c) a b d e = absurd (omega (arith, ints))

-- the least of the columns so far and of the next one
pub least_next : (y : List ℤ) (kappa : ℤ) (held : List Held) (n : ℕ) (one : Held) (old new : ℤ) → slice_get held n ≡ Some one
    → ((j : ℕ) (h : Held) → j < n → slice_get held j ≡ Some h → old ≤ℤ listed_reduced y kappa h) → new ≤ℤ old → new ≤ℤ listed_reduced y kappa one
    → (j : ℕ) (h : Held) → j < n + 1 → slice_get held j ≡ Some h → new ≤ℤ listed_reduced y kappa h
least_next y kappa held n one old new at before a b j h l e = by (split j n l)
  where
    split : (j n : ℕ) → j < n + 1 → (j < n) ⊎ (j ≡ n)
    split j n l = grind arith

    by : (j < n) ⊎ (j ≡ n) → new ≤ℤ listed_reduced y kappa h
    by (inl l) = let x = before j h l e in omega (arith, ints)
    by (inr q) = let s : Some h ≡ Some one = sym e ∙ ap (slice_get held) q ∙ at in rw (same_Some h one s) b
