-- What a list of numbers, none of which is above a bound, says of the numbers past the bound.
use Rattle.std.proofs.Common.{◌≡◌, ℕ, ◌+◌, ◌≤◌, true, false, List, [], ◌∷◌, leb, eqb, refl, arith}
use Rattle.std.specs.List.{list_any, list_all}

-- a greater bound is kept as well
pub list_all-leb : (a b : ℕ) (xs : List ℕ) → a ≤ b → list_all (λ n. leb n a) xs ≡ true → list_all (λ n. leb n b) xs ≡ true
list_all-leb a b [] le all = refl
list_all-leb a b (x ∷ xs) le all = grind (arith, list_all-leb a b xs le)

-- the number past the bound is not in the list
pub list_any-past : (a : ℕ) (xs : List ℕ) → list_all (λ n. leb n a) xs ≡ true → list_any (λ n. eqb n (a + 1)) xs ≡ false
list_any-past a [] all = refl
list_any-past a (x ∷ xs) all = grind (arith, list_any-past a xs)
