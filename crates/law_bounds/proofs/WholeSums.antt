-- Sums of whole numbers over lists.
use Rattle.std.proofs.Common.{◌≡◌, ℕ, ℤ, arith, pos, ◌+ℤ◌, ◌*ℤ◌, ◌≤ℤ◌, neg_ℤ, ◌+◌, Bool, true, false, cond, List, [], ◌∷◌, ◌++◌, sym, refl, ap, ◌∙◌}
use Rattle.std.proofs.lemmas.Int.{ints}
use Rattle.model_rosters.specs.Folds.{sum_z, sum_n, count, Each}
use Rattle.law_bounds.proofs.linear_programs.Ring.{*ℤ-+ℤ}

module _ {A : Type 0} where
  pub sum_z-append : (f : A → ℤ) (xs ys : List A) → sum_z f (xs ++ ys) ≡ sum_z f xs +ℤ sum_z f ys
  sum_z-append f [] ys = omega (arith, ints)
  sum_z-append f (x ∷ xs) ys = omega (arith, ints, sum_z-append f xs ys)

  pub sum_z-add : (f g : A → ℤ) (xs : List A) → sum_z (λ x. f x +ℤ g x) xs ≡ sum_z f xs +ℤ sum_z g xs
  sum_z-add f g [] = omega (arith, ints)
  sum_z-add f g (x ∷ xs) = omega (arith, ints, sum_z-add f g xs)

  pub sum_z-neg : (f : A → ℤ) (xs : List A) → sum_z (λ x. neg_ℤ (f x)) xs ≡ neg_ℤ (sum_z f xs)
  sum_z-neg f [] = omega (arith, ints)
  sum_z-neg f (x ∷ xs) = omega (arith, ints, sum_z-neg f xs)

  pub sum_z-scale : (k : ℤ) (f : A → ℤ) (xs : List A) → sum_z (λ x. k *ℤ f x) xs ≡ k *ℤ sum_z f xs
  sum_z-scale k f [] = omega (arith, ints)
  sum_z-scale k f (x ∷ xs) = ap (λ (z : ℤ). k *ℤ f x +ℤ z) (sum_z-scale k f xs) ∙ sym (*ℤ-+ℤ k (f x) (sum_z f xs))

  pub sum_z-zero : (f : A → ℤ) (xs : List A) → ((x : A) → f x ≡ pos 0) → sum_z f xs ≡ pos 0
  sum_z-zero f [] h = refl
  sum_z-zero f (x ∷ xs) h = omega (arith, ints, h x, sum_z-zero f xs h)

  pub sum_z-same : (f g : A → ℤ) (xs : List A) → ((x : A) → f x ≡ g x) → sum_z f xs ≡ sum_z g xs
  sum_z-same f g [] h = refl
  sum_z-same f g (x ∷ xs) h = omega (arith, ints, h x, sum_z-same f g xs h)

  pub sum_z-pos : (f : A → ℕ) (xs : List A) → sum_z (λ x. pos (f x)) xs ≡ pos (sum_n f xs)
  sum_z-pos f [] = refl
  sum_z-pos f (x ∷ xs) = omega (arith, ints, sum_z-pos f xs)

  pub sum_z-le : (f g : A → ℤ) (xs : List A) → Each (λ x. f x ≤ℤ g x) xs → sum_z f xs ≤ℤ sum_z g xs
  sum_z-le f g [] h = omega (arith, ints)
  sum_z-le f g (x ∷ xs) h = omega (arith, ints, h.0, sum_z-le f g xs h.1)

-- the worth of what passes the test of k, summed over all k, and over all items
module _ {A : Type 0} (K : Type 0) (m : K → A → Bool) (w : K → ℤ) where
  one_more : (b : Bool) (z : ℤ) (n : ℕ) → cond b z (pos 0) +ℤ z *ℤ pos n ≡ z *ℤ pos (cond b 1 0 + n)
  one_more true z n = sym (*ℤ-+ℤ z (pos 1) (pos n) ∙ omega (arith, ints))
  one_more false z n = omega (arith, ints)

  pub exchange : (ks : List K) (xs : List A) → sum_z (λ x. sum_z (λ k. cond (m k x) (w k) (pos 0)) ks) xs ≡ sum_z (λ k. w k *ℤ pos (count (m k) xs)) ks
  exchange ks [] = sym (sum_z-zero (λ k. w k *ℤ pos 0) ks (λ k. omega (arith, ints)))
  exchange ks (x ∷ xs) =
      ap (λ (z : ℤ). sum_z (λ k. cond (m k x) (w k) (pos 0)) ks +ℤ z) (exchange ks xs)
      ∙ sym (sum_z-add (λ k. cond (m k x) (w k) (pos 0)) (λ k. w k *ℤ pos (count (m k) xs)) ks)
      ∙ sum_z-same _ _ ks (λ k. one_more (m k x) (w k) (count (m k) xs))
