-- What commands answer that ask rules alone, and what `rank`, `next` and `fits` ask of them.
use Rattle.std.specs.Prelude.{ℕ, List, Option}
use Rattle.model_rosters.specs.declared.grammar.Grammar.{Grammar}
use Rattle.command_shelf.specs.Shelf.{Texts}
use Rattle.tree_questions.specs.Ranked.{RankedAnswer}
use Rattle.tree_questions.specs.Next.{NextAnswer}
use Rattle.tree_questions.specs.Fitting.{FitsAnswer}
use Rattle.command_answers.specs.Readings.{IsGrammarOf, SaysFault}
use Rattle.command_answers.specs.Reader.{Holds}
use Rattle.command_texts.specs.Start.{AnswersFrom}

-- the answers to a rules text, where `Answers` tells those for its grammar
pub data DayAnswer (Answers : Grammar → ℕ → List ℕ → Type 0) (text : List ℕ) : ℕ → List ℕ → Type 0 where
  accepted : (g : Grammar) (status : ℕ) (output : List ℕ) → IsGrammarOf text g → Answers g status output
      → DayAnswer Answers text status output
  refused : (output : List ℕ) → SaysFault text output → DayAnswer Answers text 3 output

-- the same, where the rules text stands under a name
abbrev pub AnswersDay : (Grammar → ℕ → List ℕ → Type 0) → Option Texts → List ℕ → ℕ → List ℕ → Type 0
AnswersDay Answers held rules status output =
    (text : List ℕ) × Holds held rules text × DayAnswer Answers text status output

-- the first trees of the day, at most `most`
abbrev pub RankFrom : ℕ → Option (List ℕ) → Grammar → ℕ → List ℕ → Type 0
RankFrom most start g status output = AnswersFrom (λ h s o. RankedAnswer h most s o) start g status output

-- the codes that may follow the prefix
abbrev pub NextFrom : List ℕ → Option (List ℕ) → Grammar → ℕ → List ℕ → Type 0
NextFrom prefix start g status output = AnswersFrom (λ h s o. NextAnswer h prefix s o) start g status output

-- the shifts that fit the pattern
abbrev pub FitsFrom : List ℕ → Option (List ℕ) → Grammar → ℕ → List ℕ → Type 0
FitsFrom pattern start g status output = AnswersFrom (λ h s o. FitsAnswer h pattern s o) start g status output
