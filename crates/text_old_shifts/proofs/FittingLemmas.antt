-- The shifts whose words fit are among all, and each of their words fits.
use Rattle.std.proofs.Common.{◌≡◌, ℕ, ◌+◌, ◌<◌, ◌≤◌, Bool, true, false, cond, List, [], ◌∷◌, ◌++◌, length, take, get_or, refl, sym, ap, ◌∙◌, arith, add-one}
use Rattle.std.specs.Prelude.{filter}
use Rattle.std.proofs.Math.Seq.{take-suc}
use Rattle.std.proofs.lemmas.Bool.{eqb-true}
use Rattle.std.proofs.lemmas.List.Elements.{filter-append}
use Rattle.model_rosters.specs.declared.instance.Shift.{Shift}
use Rattle.model_rosters.specs.Folds.{Each}
use Rattle.text_old_shifts.specs.Fitting.{fits, fitting}

-- one shift more
pub one_more : (n : ℕ) (ss : List Shift) (k : ℕ) (d : Shift) (old new : List Shift) → k < length ss
    → old ≡ fitting n (take k ss) → new ≡ old ++ fitting n (get_or ss k d ∷ []) → new ≡ fitting n (take (k + 1) ss)
one_more n ss k d old new l e h =
    h ∙ ap (λ (z : List Shift). z ++ fitting n (get_or ss k d ∷ [])) e
    ∙ sym (filter-append (fits n) (take k ss) (get_or ss k d ∷ []))
    ∙ ap (λ (xs : List Shift). fitting n xs) (sym (take-suc ss k d l))
    ∙ ap (λ (m : ℕ). fitting n (take m ss)) (sym (add-one k))

pub fitting-few : (n : ℕ) (ss : List Shift) → length (fitting n ss) ≤ length ss
fitting-few n [] = omega arith
fitting-few n (s ∷ ss) = by (fits n s) (fitting-few n ss)
  where
    by : (t : Bool) → length (fitting n ss) ≤ length ss
        → length (cond t (s ∷ fitting n ss) (fitting n ss)) ≤ length (s ∷ ss)
    by true h = omega (arith, h)
    by false h = omega (arith, h)

-- what each has, each that fits has
pub fitting-each : (P : Shift → Type 0) (n : ℕ) (ss : List Shift) → Each P ss → Each P (fitting n ss)
fitting-each P n [] each = tt
fitting-each P n (s ∷ ss) each = by (fits n s) (fitting-each P n ss each.1)
  where
    by : (t : Bool) → Each P (fitting n ss) → Each P (cond t (s ∷ fitting n ss) (fitting n ss))
    by true h = (each.0, h)
    by false h = h

pub fitting-whole : (n : ℕ) (ss : List Shift) → Each (λ (s : Shift). length s.word ≡ n) (fitting n ss)
fitting-whole n [] = tt
fitting-whole n (s ∷ ss) = by (fits n s) refl (fitting-whole n ss)
  where
    by : (t : Bool) → fits n s ≡ t → Each (λ (x : Shift). length x.word ≡ n) (fitting n ss)
        → Each (λ (x : Shift). length x.word ≡ n) (cond t (s ∷ fitting n ss) (fitting n ss))
    by true e h = (eqb-true (length s.word) n e, h)
    by false e h = h
