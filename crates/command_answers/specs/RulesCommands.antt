-- What a command answers that asks rules alone, by its statuses.
use Rattle.std.specs.Prelude.{ℕ, List, Option}
use Rattle.model_rosters.specs.declared.grammar.Grammar.{Grammar}
use Rattle.command_shelf.specs.Shelf.{Texts}
use Rattle.command_answers.specs.Says.{SaysGrammar, RefusesRules}

-- the answers of a command that asks rules alone, where `A` tells those for a grammar
pub data RulesCommand (A : Grammar → ℕ → List ℕ → Type 0) (held : Option Texts) (rules : List ℕ) :
    ℕ → List ℕ → Type 0 where
  answered : (g : Grammar) (status : ℕ) (output : List ℕ) → SaysGrammar held rules g → A g status output
      → RulesCommand A held rules status output
  rules_refused : (output : List ℕ) → RefusesRules held rules output → RulesCommand A held rules 3 output
