-- What a command answers that asks a day alone, by its statuses.
use Rattle.std.specs.Prelude.{ℕ, List, Option}
use Rattle.model_rosters.specs.declared.grammar.Grammar.{Grammar}
use Rattle.model_rosters.specs.declared.instance.Instance.{Instance}
use Rattle.command_shelf.specs.Shelf.{Texts}
use Rattle.command_answers.specs.Readings.{IsGrammarOf, SaysFault, IsInstanceOf, SaysDemandFault}
use Rattle.command_answers.specs.Reader.{Holds}
use Rattle.command_answers.specs.Says.{SaysDay, RefusesRules, RefusesDemand}

-- the answers for each day
abbrev pub DayAnswers : Type 1
DayAnswers = Instance → ℕ → List ℕ → Type 0

-- where `A` tells the answers for a day
pub data DayCommand (A : DayAnswers) (held : Option Texts) (rules demand : List ℕ) : ℕ → List ℕ → Type 0 where
  answered : (i : Instance) (status : ℕ) (output : List ℕ) → SaysDay held rules demand i → A i status output
      → DayCommand A held rules demand status output
  rules_refused : (output : List ℕ) → RefusesRules held rules output → DayCommand A held rules demand 3 output
  demand_refused : (output : List ℕ) → RefusesDemand held rules demand output
      → DayCommand A held rules demand 4 output

-- the answers to a demand text
pub data DemandAnswer (A : DayAnswers) (g : Grammar) (text : List ℕ) : ℕ → List ℕ → Type 0 where
  accepted : (i : Instance) (status : ℕ) (output : List ℕ) → IsInstanceOf g text i → A i status output
      → DemandAnswer A g text status output
  refused : (output : List ℕ) → SaysDemandFault g text output → DemandAnswer A g text 4 output

-- the same, where the demand text stands under a name
pub record AnswersUnder (A : DayAnswers) (held : Option Texts) (g : Grammar) (name : List ℕ) (status : ℕ)
    (output : List ℕ) : Type 0 where
  pub text : List ℕ
  pub holds : Holds held name text
  pub answers : DemandAnswer A g text status output

-- the answers to a rules text, and then to the demand text under a name
pub data RulesAnswer (A : DayAnswers) (held : Option Texts) (text name : List ℕ) : ℕ → List ℕ → Type 0 where
  accepted : (g : Grammar) (status : ℕ) (output : List ℕ) → IsGrammarOf text g
      → AnswersUnder A held g name status output → RulesAnswer A held text name status output
  refused : (output : List ℕ) → SaysFault text output → RulesAnswer A held text name 3 output
