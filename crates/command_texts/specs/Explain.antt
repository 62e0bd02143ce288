-- What `explain RULES WORD` answers, and `explain RULES WORD NAME`.
use Rattle.std.specs.Prelude.{ℕ, ◌≡◌, List, Option, codes}
use Rattle.model_rosters.specs.declared.grammar.Grammar.{Grammar}
use Rattle.model_rosters.specs.Shifts.{IsShift, IsPrice, IsWordTree}
use Rattle.model_rosters.specs.Trees.{Parts, steps}
use Rattle.model_rosters.specs.Arcs.{cost}
use Rattle.text_answers.specs.TreeText.{tree_text}
use Rattle.command_texts.specs.Start.{AnswersFrom}

-- status 0: the word's price, and a tree of that cost by which the start name derives the word
pub record SaysTree (g : Grammar) (word output : List ℕ) : Type 0 where
  pub price : ℕ
  pub is_price : IsPrice g g.start word price
  pub tree : Parts
  pub derives : IsWordTree g g.start word tree
  pub costs : cost g tree ≡ price
  pub text : output ≡ tree_text g word price (steps 1 tree)

-- status 1: the word is no shift
pub record SaysNone (g : Grammar) (word output : List ℕ) : Type 0 where
  pub no_shift : IsShift g g.start word → ⊥
  pub line : output ≡ codes "no derivation\n"

-- the answers for a word by a grammar
pub data Derivation (g : Grammar) (word : List ℕ) : ℕ → List ℕ → Type 0 where
  shift : (output : List ℕ) → SaysTree g word output → Derivation g word 0 output
  no_shift : (output : List ℕ) → SaysNone g word output → Derivation g word 1 output

-- the answers for a word by a grammar, from its start name or from another name on
abbrev pub DerivationFrom : List ℕ → Option (List ℕ) → Grammar → ℕ → List ℕ → Type 0
DerivationFrom word start g status output = AnswersFrom (λ h s o. Derivation h word s o) start g status output
