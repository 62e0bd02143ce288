-- Items by their place in a list that has got one more.
use Rattle.std.proofs.Common.{◌≡◌, ℕ, zero, suc, List, [], ◌∷◌, ◌++◌, Some, arith, refl, sym, ◌⊎◌, inl, inr, length}
use Rattle.std.specs.Prelude.{slice_get}
use Rattle.std.proofs.lemmas.Option.{same_Some}

module _ {X : Type 0} where
  -- the items that were there stay
  pub push-kept : (xs : List X) (y w : X) (s : ℕ) → slice_get xs s ≡ Some w → slice_get (xs ++ y ∷ []) s ≡ Some w
  push-kept [] y w s e = cc
  push-kept (x ∷ xs) y w zero e = e
  push-kept (x ∷ xs) y w (suc s) e = push-kept xs y w s e

  -- the new item is the last one
  pub push-here : (xs : List X) (y : X) → slice_get (xs ++ y ∷ []) (length xs) ≡ Some y
  push-here [] y = refl
  push-here (x ∷ xs) y = push-here xs y

  -- an item was there or is the new one
  pub push-cases : (xs : List X) (y w : X) (s : ℕ) → slice_get (xs ++ y ∷ []) s ≡ Some w → (slice_get xs s ≡ Some w) ⊎ ((s ≡ length xs) × (w ≡ y))
  push-cases [] y w zero e = inr (refl, same_Some w y (sym e))
  push-cases [] y w (suc s) e = cc
  push-cases (x ∷ xs) y w zero e = inl e
  push-cases (x ∷ xs) y w (suc s) e = one (push-cases xs y w s e)
    where
      one : (slice_get xs s ≡ Some w) ⊎ ((s ≡ length xs) × (w ≡ y)) → (slice_get xs s ≡ Some w) ⊎ ((suc s ≡ length (x ∷ xs)) × (w ≡ y))
      one (inl h) = inl h
      one (inr h) = inr (omega arith, h.1)

pub same_head : {X : Type 0} (x y : X) (xs ys : List X) → x ∷ xs ≡ y ∷ ys → x ≡ y
same_head x y xs ys e = cc

pub same_tail : {X : Type 0} (x y : X) (xs ys : List X) → x ∷ xs ≡ y ∷ ys → xs ≡ ys
same_tail x y xs ys e = cc
