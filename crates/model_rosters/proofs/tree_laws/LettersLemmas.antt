-- Letters period by period, in two parts.
use Rattle.std.proofs.Common.{◌≡◌, ℕ, ◌+◌, List, [], ◌∷◌, ◌++◌, length, arith, ap, ◌∙◌}
use Rattle.model_rosters.specs.Arcs.{Letter}
use Rattle.model_rosters.specs.tree_laws.Letters.{placed}

pub placed-append : (i : ℕ) (xs ys : List ℕ) → placed i (xs ++ ys) ≡ placed i xs ++ placed (i + length xs) ys
placed-append i [] ys = let e : i ≡ i + 0 = omega arith in ap (λ (n : ℕ). placed n ys) e
placed-append i (x ∷ xs) ys =
    let e : i + 1 + length xs ≡ i + length (x ∷ xs) = omega arith in
    let own : Letter = record { code = x; period = i } in
    ap (λ (zs : List Letter). own ∷ zs) (placed-append (i + 1) xs ys ∙ ap (λ (j : ℕ). placed (i + 1) xs ++ placed j ys) e)
