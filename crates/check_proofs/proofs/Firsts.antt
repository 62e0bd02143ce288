-- First items of a list to which one more is added.
use Rattle.std.proofs.Common.{◌≡◌, ℕ, zero, suc, arith, ◌+◌, ◌-◌, ◌<◌, Some, List, [], ◌∷◌, ◌++◌, length, sym, refl, ◌∙◌}
use Rattle.std.specs.Prelude.{slice_get}
use Rattle.model_rosters.specs.Folds.{Each}
use Rattle.model_rosters.proofs.EachLemmas.{Each-get}
use Rattle.check_certificates.specs.First.{IsFirst}

module _ {A : Type 0} where
  get-within : (xs : List A) (k : ℕ) (x : A) → slice_get xs k ≡ Some x → k < length xs
  get-within [] k x e = cc
  get-within (y ∷ ys) zero x e = omega arith
  get-within (y ∷ ys) (suc k) x e = omega (arith, get-within ys k x e)

  get-left : (xs ys : List A) (k : ℕ) → k < length xs → slice_get (xs ++ ys) k ≡ slice_get xs k
  get-left [] ys k h = absurd (omega arith)
  get-left (x ∷ xs) ys zero h = refl
  get-left (x ∷ xs) ys (suc k) h = get-left xs ys k (omega arith)

  get-last : (xs : List A) (x : A) (ys : List A) (k : ℕ) → k ≡ length xs → slice_get (xs ++ x ∷ ys) k ≡ Some x
  get-last [] x ys zero h = refl
  get-last [] x ys (suc k) h = absurd (omega arith)
  get-last (y ∷ xs) x ys zero h = absurd (omega arith)
  get-last (y ∷ xs) x ys (suc k) h = get-last xs x ys k (omega arith)

module _ {A : Type 0} (P : A → Type 0) where
  -- a first item stays first
  pub first-stays : (xs ys : List A) (k : ℕ) (x : A) → IsFirst P xs k x → IsFirst P (xs ++ ys) k x
  first-stays xs ys k x f =
      let within = get-within xs (k - 1) x f.place in
      record {
        positive = f.positive;
        place = get-left xs ys (k - 1) within ∙ f.place;
        meets = f.meets;
        before = λ j y h e. f.before j y h (sym (get-left xs ys j (omega arith)) ∙ e);
      }

  -- an item that is added is first where none before it is
  pub first-added : (xs : List A) (x : A) (n : ℕ) → Each (λ y. P y → ⊥) xs → P x → n ≡ length xs + 1 → IsFirst P (xs ++ x ∷ []) n x
  first-added xs x n none h e = record {
    positive = omega arith;
    place = get-last xs x [] (n - 1) (omega arith);
    meets = h;
    before = λ j y l g. Each-get (λ z. P z → ⊥) xs j y none (sym (get-left xs (x ∷ []) j (omega arith)) ∙ g);
  }
