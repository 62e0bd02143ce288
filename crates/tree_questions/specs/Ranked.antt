-- What is answered of the first trees of the day.
use Rattle.std.specs.Prelude.{ℕ, ◌≡◌, ◌≢◌, ◌++◌, List, [], ◌∷◌, pos, codes, length}
use Rattle.model_rosters.specs.declared.grammar.Grammar.{Grammar}
use Rattle.model_rosters.specs.Arcs.{cost}
use Rattle.model_rosters.specs.Trees.{Parts, IsDayTree, steps, word}
use Rattle.text_lines.specs.Numbers.{number_text}
use Rattle.text_lines.specs.Written.{written}
use Rattle.tree_ranking.specs.declared.ranking.Ranked.{Ranked}
use Rattle.tree_ranking.specs.Ranking.{IsRanking}
use Rattle.tree_questions.specs.Prices.{cost_view}
use Rattle.tree_questions.specs.Lines.{Line, AddsLines, AreLines}

-- the line of tree number j: its cost and its word
abbrev pub tree_line : Grammar → ℕ → Parts → Line
tree_line g j t = codes "tree" ∷ number_text (pos j) ∷ number_text (pos (cost g t)) ∷ word g t ∷ []

-- the line of the tree of the day with these steps
abbrev pub SaysTree : Grammar → ℕ → Ranked → List Line → Type 0
SaysTree g j r lines = (t : Parts) × IsDayTree g t × (r.tree ≡ steps 1 t) × (lines ≡ tree_line g j t ∷ [])

abbrev pub count_line : ℕ → Line
count_line n = codes "trees" ∷ number_text (pos n) ∷ []

-- how many trees there are, and the line of each
pub record IsTreesText (g : Grammar) (ranked : List Ranked) (output : List ℕ) : Type 0 where
  pub lines : List Line
  pub each : AreLines (SaysTree g) 1 ranked lines
  pub text : output ≡ written (count_line (length ranked) ∷ lines)

-- status 0 where the day has a tree, and 1 where it has none: the first trees by cost and then by their lists
-- of rule uses, at most `most`, and their lines
pub data RankedAnswer (g : Grammar) (most : ℕ) : ℕ → List ℕ → Type 0 where
  some : (ranked : List Ranked) (output : List ℕ) → IsRanking g (cost_view g) most ranked
      → IsTreesText g ranked output → ranked ≢ []
      → RankedAnswer g most 0 output
  none : (output : List ℕ) → ((t : Parts) → IsDayTree g t → ⊥) → output ≡ written (count_line 0 ∷ [])
      → RankedAnswer g most 1 output

-- the line of a tree was added
pub record AddsTree (g : Grammar) (j : ℕ) (r : Ranked) (old new : List ℕ) : Type 0 where
  pub lines : List Line
  pub says : SaysTree g j r lines
  pub text : new ≡ old ++ written lines

-- the lines of the trees were added
abbrev pub AddsTrees : Grammar → List Ranked → List ℕ → List ℕ → Type 0
AddsTrees g ranked old new = AddsLines (SaysTree g) 1 ranked old new
