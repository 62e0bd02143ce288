-- What a command answers that asks something of a third text by the day of two others, by its statuses.
use Rattle.std.specs.Prelude.{ℕ, List, Option}
use Rattle.model_rosters.specs.declared.instance.Instance.{Instance}
use Rattle.command_shelf.specs.Shelf.{Texts}
use Rattle.command_answers.specs.Asked.{TextAnswers, AnswersThird}
use Rattle.command_answers.specs.Says.{SaysDay, RefusesRules, RefusesDemand}

-- where `A` tells the answers to a text by a day
pub data TextCommand (A : TextAnswers) (held : Option Texts) (rules demand third : List ℕ) :
    ℕ → List ℕ → Type 0 where
  answered : (i : Instance) (status : ℕ) (output : List ℕ) → SaysDay held rules demand i
      → AnswersThird A held i third status output → TextCommand A held rules demand third status output
  rules_refused : (output : List ℕ) → RefusesRules held rules output
      → TextCommand A held rules demand third 3 output
  demand_refused : (output : List ℕ) → RefusesDemand held rules demand output
      → TextCommand A held rules demand third 4 output
