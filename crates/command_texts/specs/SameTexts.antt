-- Two texts that are said of one word.
use Rattle.std.specs.Prelude.{ℕ, ◌≡◌, ◌⊎◌, List}
use Rattle.model_rosters.specs.declared.grammar.Grammar.{Grammar}
use Rattle.model_rosters.specs.declared.grammar.Step.{Step}
use Rattle.text_answers.specs.TreeText.{tree_text}

-- two derivations of a word, at one price
pub record AreTreesAtOnePrice (word a b : List ℕ) : Type 0 where
  pub grammar : Grammar
  pub price : ℕ
  pub one : List Step
  pub other : List Step
  pub first : a ≡ tree_text grammar word price one
  pub second : b ≡ tree_text grammar word price other

-- the same text, but for the tree of a word that is a shift
abbrev pub AreSameButTree : List ℕ → List ℕ → List ℕ → Type 0
AreSameButTree word a b = (a ≡ b) ⊎ AreTreesAtOnePrice word a b
