-- What is said of a tree of a word, and of each rule that it uses.
use Rattle.std.specs.Prelude.{ℕ, ◌≡◌, Option, None, Some, List, [], ◌∷◌, ◌++◌}
use Rattle.std.specs.List.{flat_map}
use Rattle.model_rosters.specs.declared.grammar.Grammar.{Grammar}
use Rattle.model_rosters.specs.declared.grammar.Rule.{Rule}
use Rattle.model_rosters.specs.declared.grammar.Step.{Step}
use Rattle.model_rosters.specs.Grammar.{rule_at}
use Rattle.model_rosters.specs.Trees.{steps}
use Rattle.text_lines.specs.Written.{written}
use Rattle.text_rules.specs.Written.{rule_line}
use Rattle.text_answers.specs.TreeText.{tree_lines, use_line}
use Rattle.command_texts.specs.Explain.{SaysTree}

-- the line of a rule as the rules text has it, where there is such a rule
abbrev pub line_of : Grammar → Option Rule → List (List (List ℕ))
line_of g None = []
line_of g (Some rule) = rule_line g.codes g.names rule ∷ []

-- the line of a rule use, and behind it that of the rule; a tree uses rules that there are
abbrev pub use_lines : Grammar → Step → List (List (List ℕ))
use_lines g s = use_line g s ∷ line_of g (rule_at g s.rule)

-- the text of a derivation of the word at this cost, with the rules: the lines `word` and `cost`, and the
-- lines of each rule use
abbrev pub ruled_text : Grammar → List ℕ → ℕ → List Step → List ℕ
ruled_text g word cost ss = written (tree_lines g word cost [] ++ flat_map (use_lines g) ss)

-- what `explain` says of a word, with status 0, at this price, and behind each rule use the rule
pub record SaysWithRules (g : Grammar) (word : List ℕ) (price : ℕ) (output : List ℕ) : Type 0 where
  pub explained : List ℕ
  pub says : SaysTree g word explained
  pub at_price : says.price ≡ price
  pub text : output ≡ ruled_text g word price (steps 1 says.tree)

-- two derivations of a word with their rules, at one price
pub record AreRuledAtOnePrice (word a b : List ℕ) : Type 0 where
  pub grammar : Grammar
  pub price : ℕ
  pub one : List Step
  pub other : List Step
  pub first : a ≡ ruled_text grammar word price one
  pub second : b ≡ ruled_text grammar word price other
