-- Lists by their last elements.
use Rattle.std.proofs.Common.{◌≡◌, ℕ, arith, List, [], ◌∷◌, ◌++◌, length, refl, ap, length-append}

pub snoc-same : (xs ys : List ℕ) (a b : ℕ) → xs ++ a ∷ [] ≡ ys ++ b ∷ [] → (xs ≡ ys) × (a ≡ b)
snoc-same [] [] a b e = (refl, head-same a b e)
  where
    head-same : (a b : ℕ) → ◌≡◌ {A = List ℕ} (a ∷ []) (b ∷ []) → a ≡ b
    head-same a b e = cc
snoc-same [] (y ∷ ys) a b e = absurd (omega (arith, ap length e, length-append ys (b ∷ [])))
snoc-same (x ∷ xs) [] a b e = absurd (omega (arith, ap length e, length-append xs (a ∷ [])))
snoc-same (x ∷ xs) (y ∷ ys) a b e = join (parts x y (xs ++ a ∷ []) (ys ++ b ∷ []) e) (snoc-same xs ys a b (parts x y (xs ++ a ∷ []) (ys ++ b ∷ []) e).1)
  where
    parts : (x y : ℕ) (us vs : List ℕ) → ◌≡◌ {A = List ℕ} (x ∷ us) (y ∷ vs) → (x ≡ y) × (us ≡ vs)
    parts x y us vs e = (cc, cc)

    join : (x ≡ y) × (xs ++ a ∷ [] ≡ ys ++ b ∷ []) → (xs ≡ ys) × (a ≡ b) → (x ∷ xs ≡ y ∷ ys) × (a ≡ b)
    join p q = let f = p.0 in let g = q.0 in (cc, q.1)

pub no-snoc : (xs : List ℕ) (a : ℕ) → xs ++ a ∷ [] ≡ [] → ⊥
no-snoc xs a e = omega (arith, ap length e, length-append xs (a ∷ []))
