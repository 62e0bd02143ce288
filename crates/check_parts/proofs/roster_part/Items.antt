-- What holds of the items of a list, by their places.
use Rattle.std.proofs.Common.{◌≡◌, ℕ, suc, ◌+◌, ◌-◌, ◌<◌, ◌≤◌, arith, Some, List, [], ◌∷◌, length, refl, sym, subst, ◌∙◌, inl, inr, ◌⊎◌}
use Rattle.std.specs.Prelude.{slice_get}
use Rattle.std.proofs.lemmas.Option.{same_Some, slice_get_within}
use Rattle.model_rosters.specs.Folds.{Each}
use Rattle.model_rosters.proofs.EachLemmas.{Each-get}
use Rattle.check_certificates.specs.First.{IsFirst}

module _ {A : Type 0} where
  -- each of the first k items has the property
  pub record Before (P : A → Type 0) (xs : List A) (k : ℕ) : Type 0 where
    pub each : (j : ℕ) (x : A) → j < k → slice_get xs j ≡ Some x → P x

  pub before-none : (P : A → Type 0) (xs : List A) → Before P xs 0
  before-none P xs = record { each = λ j x l at. absurd (omega arith) }

  pub before-next : (P : A → Type 0) (xs : List A) (k : ℕ) (y : A) → slice_get xs k ≡ Some y → P y → Before P xs k → Before P xs (k + 1)
  before-next P xs k y here p h = record { each = each }
    where
      here-is : (j : ℕ) (x : A) → j ≡ k → slice_get xs j ≡ Some x → P x
      here-is j x e at = subst P (same_Some y x (sym here ∙ subst (λ (n : ℕ). slice_get xs n ≡ Some x) e at)) p

      each : (j : ℕ) (x : A) → j < k + 1 → slice_get xs j ≡ Some x → P x
      each j x l at = pick (decide j k)
        where
          decide : (a b : ℕ) → (a < b) ⊎ (b ≤ a)
          decide a b = grind arith

          pick : (j < k) ⊎ (k ≤ j) → P x
          pick (inl s) = h.each j x s at
          pick (inr s) = here-is j x (omega arith) at

  each-of : (P : A → Type 0) (xs : List A) → ((j : ℕ) (x : A) → slice_get xs j ≡ Some x → P x) → Each P xs
  each-of P [] f = tt
  each-of P (y ∷ ys) f = (f 0 y refl, each-of P ys (λ j x at. f (suc j) x at))

  pub before-all : (P : A → Type 0) (xs : List A) (k : ℕ) → length xs ≤ k → Before P xs k → Each P xs
  before-all P xs k l h = each-of P xs (λ j x at. let w = slice_get_within xs j x at in h.each j x (omega arith) at)

  -- the item after such as fail a property is the first with it
  pub first-here : (P Q : A → Type 0) (xs : List A) (k : ℕ) (y : A) → slice_get xs k ≡ Some y → P y → ((x : A) → Q x → P x → ⊥) → Before Q xs k → IsFirst P xs (k + 1) y
  first-here P Q xs k y here p apart h = record {
    positive = omega arith;
    place = subst (λ (n : ℕ). slice_get xs n ≡ Some y) same here;
    meets = p;
    before = λ j x l at q. apart x (h.each j x (omega arith) at) q;
  }
    where
      same : k ≡ k + 1 - 1
      same = omega arith

  -- where all items fail a property, none is the first with it
  pub no-first : (P Q : A → Type 0) (xs : List A) (k : ℕ) (y : A) → ((x : A) → Q x → P x → ⊥) → Each Q xs → IsFirst P xs k y → ⊥
  no-first P Q xs k y apart h f = apart y (Each-get Q xs (k - 1) y h f.place) f.meets
