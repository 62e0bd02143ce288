-- What the walks down a tree ask, and what they do.
use Rattle.std.specs.Prelude.{ℕ, ◌≡◌, ◌+◌, ◌-◌, ◌*◌, ◌≤◌, ◌||◌, min, nat_eq, nat_lt, Bool, cond, List, [], ◌∷◌, ◌++◌, Some, length, drop}
use Rattle.model_rosters.specs.declared.grammar.ArcKey.{ArcKey}
use Rattle.model_rosters.specs.declared.grammar.Grammar.{Grammar}
use Rattle.model_rosters.specs.declared.grammar.Rule.{Rule}
use Rattle.model_rosters.specs.declared.grammar.Step.{Step}
use Rattle.model_rosters.specs.declared.grammar.Sym.{Sym}
use Rattle.model_rosters.specs.declared.grammar.Sym.TheVariants.{Code, Name}
use Rattle.model_rosters.specs.Grammar.{rule_at}
use Rattle.model_rosters.specs.Trees.{Parts, On}
use Rattle.model_rosters.specs.Sound.{IsSound}
use Rattle.tree_pool.specs.declared.grammar_core.suffix.Suffix.{Suffix}

-- whether the part at suffix k of m symbols has an arc: the last part has none, save where it is the only one
abbrev pub has_arc : ℕ → ℕ → Bool
has_arc k m = nat_eq k 0 || nat_lt (k + 1) m

-- the arc of a part of m symbols, if it has one
abbrev pub own_arcs : ℕ → ArcKey → List ArcKey
own_arcs m a = cond (has_arc a.suffix m) (a ∷ []) []

-- how many periods the tree of a symbol covers, whose steps come next
abbrev pub next_len : Sym → List Step → ℕ
next_len (Code c) xs = 1
next_len (Name x) [] = 0
next_len (Name x) (step ∷ xs) = step.len

-- the next items are those of a tree of the symbol
pub record AsksTree {X : Type 0} (g : Grammar) (s : Sym) (list : ℕ → Parts → List X)
    (xs : List X) : Type 0 where
  pub sound : IsSound g
  pub start : ℕ
  pub len : ℕ
  pub tree : Parts
  pub on : On g (s ∷ []) start len tree
  pub rest : List X
  pub is : xs ≡ list start tree ++ rest

-- the next items are those of parts of a suffix of the rule
pub record AsksParts {X : Type 0} (g : Grammar) (rule : Rule) (x : Suffix) (list : Parts → List X)
    (xs : List X) : Type 0 where
  pub sound : IsSound g
  pub at : rule_at g x.rule ≡ Some rule
  pub within : x.from ≤ length rule.right
  pub day : x.start + x.len ≤ 97
  pub tree : Parts
  pub on : On g (drop x.from rule.right) x.start x.len tree
  pub rest : List X
  pub is : xs ≡ list tree ++ rest

-- the items of each tree of the symbol that comes next were taken, and the other list of it was added
abbrev pub TurnsTree : {X Y : Type 0} → Grammar → Sym → (ℕ → Parts → List X) → (ℕ → Parts → List Y) → List X
    → List Y → List X → List Y → Type 0
TurnsTree {X} {Y} g s from to old_x old_y new_x new_y =
    (i l : ℕ) (t : Parts) (rest : List X) → On g (s ∷ []) i l t → old_x ≡ from i t ++ rest → (new_x ≡ rest)
    × (new_y ≡ old_y ++ to i t)

-- the items of the parts of the suffix that come next were taken, and the other list of them was added
abbrev pub TurnsParts : {X Y : Type 0} → Grammar → Rule → Suffix → (Parts → List X) → (Parts → List Y)
    → List X → List Y → List X → List Y → Type 0
TurnsParts {X} {Y} g rule x from to old_x old_y new_x new_y =
    (t : Parts) (rest : List X) → On g (drop x.from rule.right) x.start x.len t → old_x ≡ from t ++ rest
    → (new_x ≡ rest) × (new_y ≡ old_y ++ to t)

-- how far a walk over so many items may still go down from a tree
abbrev pub tree_measure : ℕ → ℕ
tree_measure n = 20 * n + 1

-- how far a walk over so many steps may go down from the parts of a suffix: their tree takes a step
abbrev pub steps_measure : ℕ → ℕ → ℕ
steps_measure n from = 20 * n + (18 - 2 * from)

-- how far a walk over so many arcs may go down from them: the first of them takes an arc
abbrev pub arcs_measure : ℕ → ℕ → ℕ
arcs_measure n from = 20 * n + (19 * min from 1 - 2 * from)
