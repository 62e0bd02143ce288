-- Shifts and their prices, of any deriving name.
use Rattle.std.specs.Prelude.{ℕ, ◌≡◌, ◌≤◌, List}
use Rattle.model_rosters.specs.declared.grammar.Grammar.{Grammar}
use Rattle.model_rosters.specs.Trees.{Parts, IsTreeOf, word}
use Rattle.model_rosters.specs.Arcs.{cost}

-- a tree by which the name derives the word over the whole day
pub record IsWordTree (g : Grammar) (name : ℕ) (w : List ℕ) (t : Parts) : Type 0 where
  pub derives : IsTreeOf g name t
  pub word : word g t ≡ w

-- the name derives the word over the whole day
abbrev pub IsShift : Grammar → ℕ → List ℕ → Type 0
IsShift g name w = (t : Parts) × IsWordTree g name w t

-- the least cost of such a tree
pub record IsPrice (g : Grammar) (name : ℕ) (w : List ℕ) (price : ℕ) : Type 0 where
  pub attained : (t : Parts) × IsWordTree g name w t × (cost g t ≡ price)
  pub least : (t : Parts) → IsWordTree g name w t → price ≤ cost g t
