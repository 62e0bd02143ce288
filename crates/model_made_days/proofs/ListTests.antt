-- What holds of each item of a list, by a test that computes.
use Rattle.std.proofs.Common.{◌≡◌, ◌≢◌, ℕ, zero, suc, ◌<◌, ◌+◌, Bool, true, not, ◌&&◌, eqb, List, [], ◌∷◌, Some, max, inl, inr, subst, arith}
use Rattle.std.specs.Prelude.{slice_get}
use Rattle.std.specs.List.{list_all}
use Rattle.std.proofs.lemmas.Bool.{and_parts, eqb-false, not-true}
use Rattle.std.proofs.lemmas.Bool.Decides.{leb_tells}
use Rattle.std.proofs.lemmas.Option.{same_Some, none-some}
use Rattle.model_rosters.specs.Folds.{Each}
use Rattle.model_rosters.specs.Order.{known_after}
use Rattle.model_rosters.specs.Sound.{AreInOrder}

pub each_at : {A : Type 0} (P : A → Type 0) (xs : List A) → Each P xs
    → (k : ℕ) (x : A) → slice_get xs k ≡ Some x → P x
each_at P [] h k x e = absurd (none-some x e)
each_at P (y ∷ xs) h zero x e = subst P (same_Some y x e) h.0
each_at P (y ∷ xs) h (suc k) x e = each_at P xs h.1 k x e

pub each_by : {A : Type 0} (p : A → Bool) (P : A → Type 0) → ((x : A) → p x ≡ true → P x)
    → (xs : List A) → list_all p xs ≡ true → Each P xs
each_by p P f [] h = tt
each_by p P f (x ∷ xs) h =
    let both = and_parts (p x) (list_all p xs) h in (f x both.0, each_by p P f xs both.1)

-- whether each item has another number than each later one
abbrev pub all_apart : {A : Type 0} → (A → ℕ) → List A → Bool
all_apart f [] = true
all_apart f (x ∷ xs) = list_all (λ y. not (eqb (f x) (f y))) xs && all_apart f xs

module _ {A : Type 0} (f : A → ℕ) where
  others : (x : A) (xs : List A) → list_all (λ y. not (eqb (f x) (f y))) xs ≡ true → Each (λ y. f x ≢ f y) xs
  others x xs h =
      each_by (λ y. not (eqb (f x) (f y))) (λ y. f x ≢ f y)
      (λ y e. eqb-false (f x) (f y) (not-true (eqb (f x) (f y)) e)) xs h

  parts : (x : A) (xs : List A) → all_apart f (x ∷ xs) ≡ true
      → Each (λ y. f x ≢ f y) xs × (all_apart f xs ≡ true)
  parts x xs h =
      let both = and_parts (list_all (λ y. not (eqb (f x) (f y))) xs) (all_apart f xs) h in
      (others x xs both.0, both.1)

  pub apart_at : (xs : List A) → all_apart f xs ≡ true → (i j : ℕ) (a b : A) → i < j
      → slice_get xs i ≡ Some a → slice_get xs j ≡ Some b → f a ≢ f b
  apart_at [] h i j a b lt e g = absurd (none-some a e)
  apart_at (x ∷ xs) h i zero a b lt e g = absurd (omega arith)
  apart_at (x ∷ xs) h zero (suc j) a b lt e g =
      let P : A → Type 0 = λ c. f c ≢ f b in
      subst P (same_Some x a e) (each_at (λ y. f x ≢ f y) xs (parts x xs h).0 j b g)
  apart_at (x ∷ xs) h (suc i) (suc j) a b lt e g = apart_at xs (parts x xs h).1 i j a b (omega arith) e g

-- in order of first appearance, by how many numbers are known at the end
pub in_order : (k m : ℕ) (xs : List ℕ) → known_after k xs ≡ Some m → AreInOrder k xs
in_order k m [] e = tt
in_order k m (x ∷ xs) e = elim (leb_tells x k) [
  | inl p ↦ (p.1, in_order (max k (x + 1)) m xs (rw p.0 at e))
  | inr p ↦ absurd (none-some m (rw p.0 at e))
]
