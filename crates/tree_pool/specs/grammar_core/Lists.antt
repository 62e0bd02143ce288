-- The two lists that tell a tree of some name on some span.
use Rattle.std.specs.Prelude.{ℕ, ◌≡◌, List, [], ◌∷◌}
use Rattle.model_rosters.specs.declared.grammar.ArcKey.{ArcKey}
use Rattle.model_rosters.specs.declared.grammar.Grammar.{Grammar}
use Rattle.model_rosters.specs.declared.grammar.Step.{Step}
use Rattle.model_rosters.specs.declared.grammar.Sym.TheVariants.{Name}
use Rattle.model_rosters.specs.Trees.{Parts, On, steps}
use Rattle.model_rosters.specs.Arcs.{arcs}
use Rattle.model_rosters.specs.Sound.{IsSound}

-- a tree of some name on a span that begins at period i
pub record IsSpanTree (g : Grammar) (i : ℕ) (t : Parts) : Type 0 where
  pub name : ℕ
  pub len : ℕ
  pub on : On g (Name name ∷ []) i len t

-- the list is that of the steps of such a tree
pub record AreSteps (g : Grammar) (list : List Step) : Type 0 where
  pub start : ℕ
  pub tree : Parts
  pub is_tree : IsSpanTree g start tree
  pub steps : list ≡ steps start tree

-- the list is that of the arcs of such a tree
pub record AreArcs (g : Grammar) (list : List ArcKey) : Type 0 where
  pub start : ℕ
  pub tree : Parts
  pub is_tree : IsSpanTree g start tree
  pub arcs : list ≡ arcs start tree

-- the second list is that of the arcs of each tree whose steps are the first list
abbrev pub AreArcsOf : Grammar → List Step → List ArcKey → Type 0
AreArcsOf g uses list = (i : ℕ) (t : Parts) → IsSpanTree g i t → uses ≡ steps i t → list ≡ arcs i t

-- the second list is that of the steps of each tree whose arcs are the first list
abbrev pub AreStepsOf : Grammar → List ArcKey → List Step → Type 0
AreStepsOf g keys list = (i : ℕ) (t : Parts) → IsSpanTree g i t → keys ≡ arcs i t → list ≡ steps i t

-- two trees with the same steps are one tree
abbrev pub StepsTellTree : Type 0
StepsTellTree = (g : Grammar) (i j : ℕ) (t u : Parts) → IsSpanTree g i t → IsSpanTree g j u
    → steps i t ≡ steps j u → t ≡ u

-- two trees of a sound grammar with the same arcs are one tree
abbrev pub ArcsTellTree : Type 0
ArcsTellTree = (g : Grammar) (i j : ℕ) (t u : Parts) → IsSound g → IsSpanTree g i t → IsSpanTree g j u
    → arcs i t ≡ arcs j u → t ≡ u

-- The arcs that are made from steps, and the steps that are made from arcs, tell the tree that those
-- told. So the word and the cost stay.
pub record ListsTellOneTree : Type 0 where
  pub arcs_of_steps : (g : Grammar) (uses : List Step) (keys : List ArcKey) (i j : ℕ) (t u : Parts)
      → IsSound g → AreArcsOf g uses keys
      → IsSpanTree g i t → IsSpanTree g j u → uses ≡ steps i t → keys ≡ arcs j u → t ≡ u
  pub steps_of_arcs : (g : Grammar) (keys : List ArcKey) (uses : List Step) (i j : ℕ) (t u : Parts)
      → IsSound g → AreStepsOf g keys uses
      → IsSpanTree g i t → IsSpanTree g j u → keys ≡ arcs i t → uses ≡ steps j u → t ≡ u
