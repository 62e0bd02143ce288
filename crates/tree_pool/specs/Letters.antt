-- The codes of the letters of a tree, and the walk that gathers them.
use Rattle.std.specs.Prelude.{ℕ, ◌≡◌, List, ◌++◌}
use Rattle.model_rosters.specs.declared.grammar.Grammar.{Grammar}
use Rattle.model_rosters.specs.declared.grammar.Step.{Step}
use Rattle.model_rosters.specs.declared.grammar.Sym.{Sym}
use Rattle.model_rosters.specs.Trees.{Parts, Derive, IsDayTree, steps}
use Rattle.model_rosters.specs.tree_laws.Letters.{codes_of}

-- the codes of each tree of the day with these steps
abbrev pub AreCodesOf : Grammar → List Step → List ℕ → Type 0
AreCodesOf g xs codes = (t : Parts) → IsDayTree g t → xs ≡ steps 1 t → codes ≡ codes_of t

-- the steps of all such parts are taken, and the codes of their letters added
abbrev pub GivesCodes : Grammar → List Sym → List Step → List ℕ → List Step → List ℕ → Type 0
GivesCodes g ss xs old left new =
    (i : ℕ) (t : Parts) (rest : List Step) → Derive g ss i t → xs ≡ steps i t ++ rest
    → (left ≡ rest) × (new ≡ old ++ codes_of t)
