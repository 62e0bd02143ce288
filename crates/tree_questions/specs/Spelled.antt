-- The word of a tree, from its steps.
use Rattle.std.specs.Prelude.{ℕ, ◌≡◌, List, ◌++◌}
use Rattle.model_rosters.specs.declared.grammar.Grammar.{Grammar}
use Rattle.model_rosters.specs.declared.grammar.Step.{Step}
use Rattle.model_rosters.specs.declared.grammar.Sym.{Sym}
use Rattle.model_rosters.specs.Trees.{Parts, Derive, IsDayTree, steps, word}

-- the word of each tree of the day with these steps is added
abbrev pub AddsWord : Grammar → List Step → List ℕ → List ℕ → Type 0
AddsWord g xs old new = (t : Parts) → IsDayTree g t → xs ≡ steps 1 t → new ≡ old ++ word g t

-- the steps of all such parts are taken, and their word is added
abbrev pub GivesWord : Grammar → List Sym → List Step → List ℕ → List Step → List ℕ → Type 0
GivesWord g ss xs old left new =
    (i : ℕ) (t : Parts) (rest : List Step) → Derive g ss i t → xs ≡ steps i t ++ rest
    → (left ≡ rest) × (new ≡ old ++ word g t)
