-- Sums and counts over lists: joined, term by term, and what holds of each item.
use Rattle.std.proofs.Common.{◌≡◌, ℕ, arith, ◌+◌, ◌≤◌, Bool, true, false, cond, List, [], ◌∷◌, ◌++◌, length, refl, ◌⊎◌, inl, inr}
use Rattle.model_rosters.specs.Folds.{sum_n, count, In}

module _ {A : Type 0} where
  pub count-append : (p : A → Bool) (xs ys : List A) → count p (xs ++ ys) ≡ count p xs + count p ys
  count-append p [] ys = omega arith
  count-append p (x ∷ xs) ys = omega (arith, count-append p xs ys)

  pub sum_n-append : (f : A → ℕ) (xs ys : List A) → sum_n f (xs ++ ys) ≡ sum_n f xs + sum_n f ys
  sum_n-append f [] ys = omega arith
  sum_n-append f (x ∷ xs) ys = omega (arith, sum_n-append f xs ys)

  pub sum_n-same : (f g : A → ℕ) (xs : List A) → ((x : A) → In x xs → f x ≡ g x) → sum_n f xs ≡ sum_n g xs
  sum_n-same f g [] h = refl
  sum_n-same f g (x ∷ xs) h = omega (arith, h x (inl refl), sum_n-same f g xs (λ y k. h y (inr k)))

  pub sum_n-add : (f g : A → ℕ) (xs : List A) → sum_n (λ x. f x + g x) xs ≡ sum_n f xs + sum_n g xs
  sum_n-add f g [] = refl
  sum_n-add f g (x ∷ xs) = omega (arith, sum_n-add f g xs)

  pub sum_n-zero : (f : A → ℕ) (xs : List A) → ((x : A) → f x ≡ 0) → sum_n f xs ≡ 0
  sum_n-zero f [] h = refl
  sum_n-zero f (x ∷ xs) h = omega (arith, h x, sum_n-zero f xs h)

  pub count-none : (p : A → Bool) (xs : List A) → ((x : A) → p x ≡ false) → count p xs ≡ 0
  count-none p [] h = refl
  count-none p (x ∷ xs) h = rw (h x) (omega (arith, count-none p xs h))

  pub count-le-length : (p : A → Bool) (xs : List A) → count p xs ≤ length xs
  count-le-length p [] = omega arith
  count-le-length p (x ∷ xs) = one (p x) (count-le-length p xs)
    where
      one : (b : Bool) → count p xs ≤ length xs → cond b 1 0 + count p xs ≤ length (x ∷ xs)
      one true h = omega arith
      one false h = omega arith

  pub In-append : (x : A) (xs ys : List A) → In x (xs ++ ys) → In x xs ⊎ In x ys
  In-append x [] ys h = inr h
  In-append x (y ∷ xs) ys (inl e) = inl (inl e)
  In-append x (y ∷ xs) ys (inr h) = wrap (In-append x xs ys h)
    where
      wrap : In x xs ⊎ In x ys → In x (y ∷ xs) ⊎ In x ys
      wrap (inl k) = inl (inr k)
      wrap (inr k) = inr k
