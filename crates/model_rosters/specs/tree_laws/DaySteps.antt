-- The steps of trees of the day, and steps that begin with those of some parts.
use Rattle.std.specs.Prelude.{ℕ, ◌≡◌, List, ◌++◌}
use Rattle.model_rosters.specs.declared.grammar.Grammar.{Grammar}
use Rattle.model_rosters.specs.declared.grammar.Step.{Step}
use Rattle.model_rosters.specs.declared.grammar.Sym.{Sym}
use Rattle.model_rosters.specs.Trees.{Parts, Derive, IsDayTree, steps}

-- the rule uses of a tree of the day
abbrev pub AreDaySteps : Grammar → List Step → Type 0
AreDaySteps g xs = (t : Parts) × IsDayTree g t × (xs ≡ steps 1 t)

-- the first steps are those of parts that the symbols derive
pub record AsksParts (g : Grammar) (ss : List Sym) (xs : List Step) : Type 0 where
  pub start : ℕ
  pub tree : Parts
  pub derive : Derive g ss start tree
  pub rest : List Step
  pub is : xs ≡ steps start tree ++ rest
