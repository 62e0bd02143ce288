-- The codes of a tree's letters, and the periods that they stand in.
use Rattle.std.proofs.Common.{◌≡◌, ℕ, suc, ◌+◌, List, [], ◌∷◌, ◌++◌, length, refl, sym, ap, ◌∙◌, arith, length-append, add-one}
use Rattle.model_rosters.specs.declared.grammar.Grammar.{Grammar}
use Rattle.model_rosters.specs.declared.grammar.Sym.{Sym}
use Rattle.model_rosters.specs.declared.grammar.Sym.TheVariants.{Code, Name}
use Rattle.model_rosters.specs.Arcs.{Letter, letters}
use Rattle.model_rosters.specs.Trees.{Parts, done, letter, uses, span_length, Derive}
use Rattle.tree_pool.specs.Pools.{letters_from}
use Rattle.model_rosters.specs.tree_laws.Letters.{codes_of}

module _ (g : Grammar) where
  -- each period has one letter
  pub length-codes : (t : Parts) (ss : List Sym) (i : ℕ) → Derive g ss i t → length (codes_of t) ≡ span_length t
  length-codes done ss i h = refl
  length-codes (letter c rest) [] i h = absurd h
  length-codes (letter c rest) (Name x ∷ ss) i h = absurd h
  length-codes (letter c rest) (Code d ∷ ss) i h = omega (arith, length-codes rest ss (i + 1) h.1)
  length-codes (uses r n inner rest) [] i h = absurd h
  length-codes (uses r n inner rest) (Code d ∷ ss) i h = absurd h
  length-codes (uses r n inner rest) (Name x ∷ ss) i h =
      omega (arith, length-append (codes_of inner) (codes_of rest), length-codes inner h.0.right i h.6, length-codes rest ss (i + n) h.7, h.5)

  letters_from-append : (xs ys : List ℕ) (i : ℕ) → letters_from i (xs ++ ys) ≡ letters_from i xs ++ letters_from (i + length xs) ys
  letters_from-append [] ys i = let e : i ≡ i + 0 = omega arith in ap (λ (n : ℕ). letters_from n ys) e
  letters_from-append (x ∷ xs) ys i =
      let own : Letter = record { code = x; period = i } in
      let e : suc i + length xs ≡ i + length (x ∷ xs) = omega arith in
      ap (λ (ls : List Letter). own ∷ ls) (letters_from-append xs ys (suc i) ∙ ap (λ (n : ℕ). letters_from (suc i) xs ++ letters_from n ys) e)

  pub letters-are : (t : Parts) (ss : List Sym) (i : ℕ) → Derive g ss i t → letters i t ≡ letters_from i (codes_of t)
  letters-are done ss i h = refl
  letters-are (letter c rest) [] i h = absurd h
  letters-are (letter c rest) (Name x ∷ ss) i h = absurd h
  letters-are (letter c rest) (Code d ∷ ss) i h =
      let own : Letter = record { code = c; period = i } in
      let e : i + 1 ≡ suc i = add-one i in
      ap (λ (ls : List Letter). own ∷ ls) (letters-are rest ss (i + 1) h.1 ∙ ap (λ (n : ℕ). letters_from n (codes_of rest)) e)
  letters-are (uses r n inner rest) [] i h = absurd h
  letters-are (uses r n inner rest) (Code d ∷ ss) i h = absurd h
  letters-are (uses r n inner rest) (Name x ∷ ss) i h =
      let long : length (codes_of inner) ≡ n = length-codes inner h.0.right i h.6 ∙ h.5 in
      let a = letters-are inner h.0.right i h.6 in
      let b = letters-are rest ss (i + n) h.7 in
      ap (λ (ls : List Letter). ls ++ letters (i + n) rest) a
      ∙ ap (λ (ls : List Letter). letters_from i (codes_of inner) ++ ls) (b ∙ ap (λ (m : ℕ). letters_from (i + m) (codes_of rest)) (sym long))
      ∙ sym (letters_from-append (codes_of inner) (codes_of rest) i)
