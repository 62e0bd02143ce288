-- The order of lists of numbers.
use Rattle.std.proofs.Common.{ℕ, arith, List, [], ◌∷◌, inl, inr, ◌∙◌}
use Rattle.model_rosters.specs.Arcs.{ComesFirst}

pub first_one_way : (xs ys : List ℕ) → ComesFirst xs ys → ComesFirst ys xs → ⊥
first_one_way [] ys h k = h
first_one_way (x ∷ xs) [] h k = h
first_one_way (x ∷ xs) (y ∷ ys) (inl h) (inl k) = absurd (omega arith)
first_one_way (x ∷ xs) (y ∷ ys) (inl h) (inr k) = absurd (omega (arith, k.0))
first_one_way (x ∷ xs) (y ∷ ys) (inr h) (inl k) = absurd (omega (arith, h.0))
first_one_way (x ∷ xs) (y ∷ ys) (inr h) (inr k) = first_one_way xs ys h.1 k.1

-- no list of numbers comes before itself
pub first_apart : (xs : List ℕ) → ComesFirst xs xs → ⊥
first_apart [] h = h
first_apart (x ∷ xs) (inl h) = absurd (omega arith)
first_apart (x ∷ xs) (inr h) = first_apart xs h.1

pub first_through : (xs ys zs : List ℕ) → ComesFirst xs ys → ComesFirst ys zs → ComesFirst xs zs
first_through [] ys zs h k = absurd h
first_through (x ∷ xs) [] zs h k = absurd h
first_through (x ∷ xs) (y ∷ ys) [] h k = absurd k
first_through (x ∷ xs) (y ∷ ys) (z ∷ zs) (inl a) (inl b) = inl (omega (arith, a, b))
first_through (x ∷ xs) (y ∷ ys) (z ∷ zs) (inl a) (inr b) = inl (omega (arith, a, b.0))
first_through (x ∷ xs) (y ∷ ys) (z ∷ zs) (inr a) (inl b) = inl (omega (arith, a.0, b))
first_through (x ∷ xs) (y ∷ ys) (z ∷ zs) (inr a) (inr b) = inr (a.0 ∙ b.0, first_through xs ys zs a.1 b.1)
