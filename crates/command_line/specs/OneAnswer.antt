-- The same texts have the same answer.
use Rattle.std.specs.Prelude.{ℕ, ◌≡◌, List, Some}
use Rattle.command_shelf.specs.Shelf.{Texts}
use Rattle.command_texts.specs.Check.{Judgement}
use Rattle.command_texts.specs.Days.{RankFrom, NextFrom, FitsFrom}
use Rattle.command_texts.specs.Explain.{DerivationFrom}
use Rattle.command_answers.specs.RulesCommands.{RulesCommand}
use Rattle.command_answers.specs.Says.{CertCommand}
use Rattle.command_texts.specs.Start.{AnswersNoForm}
use Rattle.command_answers.specs.TextCommands.{TextCommand}
use Rattle.command_texts.specs.relax.Answers.{RelaxedRules, RelaxedDemand}
use Rattle.command_texts.specs.relax.DayCommands.{DayCommand}
use Rattle.command_texts.specs.what_if.Rest.{Resting}
use Rattle.command_texts.specs.what_if.Value.{Valuation}
use Rattle.command_texts.specs.SameTexts.{AreSameButTree}
use Rattle.command_line.specs.Form.{Form, explain, rank, next, fits, check, value, rest, relax_rules, relax_demand, reuse, solve, curve, make, none}
use Rattle.command_searches.specs.CurveAnswers.{CurveAnswers}
use Rattle.command_searches.specs.Make.{AnswersMake}
use Rattle.command_searches.specs.Reuse.{Reusing}
use Rattle.command_searches.specs.OneEnd.{HaveOneEnd, HasOneEnd}
use Rattle.command_searches.specs.SolveAnswers.{SolveAnswers}

-- whatever two answers the words allow over the same texts, their statuses are equal, and what is said
-- is equal too, but for the tree of `explain` and for what a search finds
abbrev pub HasOneAnswer : Form → Type 0
HasOneAnswer (explain rules word start) =
    (held : Texts) (s t : ℕ) (a b : List ℕ) → RulesCommand (λ g s o. DerivationFrom word start g s o) (Some held) rules s a
    → RulesCommand (λ g s o. DerivationFrom word start g s o) (Some held) rules t b → (s ≡ t) × AreSameButTree word a b
HasOneAnswer (rank rules most start) =
    (held : Texts) (s t : ℕ) (a b : List ℕ) → RulesCommand (λ g s o. RankFrom most start g s o) (Some held) rules s a
    → RulesCommand (λ g s o. RankFrom most start g s o) (Some held) rules t b → (s ≡ t) × (a ≡ b)
HasOneAnswer (next rules prefix start) =
    (held : Texts) (s t : ℕ) (a b : List ℕ) → RulesCommand (λ g s o. NextFrom prefix start g s o) (Some held) rules s a
    → RulesCommand (λ g s o. NextFrom prefix start g s o) (Some held) rules t b → (s ≡ t) × (a ≡ b)
HasOneAnswer (fits rules pattern start) =
    (held : Texts) (s t : ℕ) (a b : List ℕ) → RulesCommand (λ g s o. FitsFrom pattern start g s o) (Some held) rules s a
    → RulesCommand (λ g s o. FitsFrom pattern start g s o) (Some held) rules t b → (s ≡ t) × (a ≡ b)
HasOneAnswer (check rules demand proof) =
    (held : Texts) (s t : ℕ) (a b : List ℕ) → CertCommand Judgement (Some held) rules demand proof s a
    → CertCommand Judgement (Some held) rules demand proof t b → (s ≡ t) × (a ≡ b)
HasOneAnswer (value rules demand roster) =
    (held : Texts) (s t : ℕ) (a b : List ℕ) → TextCommand Valuation (Some held) rules demand roster s a
    → TextCommand Valuation (Some held) rules demand roster t b → (s ≡ t) × (a ≡ b)
HasOneAnswer (rest rules demand roster) =
    (held : Texts) (s t : ℕ) (a b : List ℕ) → TextCommand Resting (Some held) rules demand roster s a
    → TextCommand Resting (Some held) rules demand roster t b → (s ≡ t) × (a ≡ b)
HasOneAnswer (relax_rules rules) =
    (held : Texts) (s t : ℕ) (a b : List ℕ) → RulesCommand RelaxedRules (Some held) rules s a
    → RulesCommand RelaxedRules (Some held) rules t b → (s ≡ t) × (a ≡ b)
HasOneAnswer (relax_demand kind rules demand) =
    (held : Texts) (s t : ℕ) (a b : List ℕ) → DayCommand (RelaxedDemand kind) (Some held) rules demand s a
    → DayCommand (RelaxedDemand kind) (Some held) rules demand t b → (s ≡ t) × (a ≡ b)
HasOneAnswer (reuse rules demand proof) =
    (held : Texts) (s t : ℕ) (a b : List ℕ) → CertCommand Reusing (Some held) rules demand proof s a
    → CertCommand Reusing (Some held) rules demand proof t b → (s ≡ t) × (a ≡ b)
HasOneAnswer (solve rules demand proof limit from) =
    (held : Texts) → HaveOneEnd (λ m. SolveAnswers (Some held) rules demand from m limit)
HasOneAnswer (curve rules demand proof limit group) =
    (held : Texts) → HasOneEnd (λ m. CurveAnswers (Some held) rules demand group proof m limit)
HasOneAnswer (make number proof limit) = HaveOneEnd (λ m. AnswersMake number m limit)
HasOneAnswer none = (s t : ℕ) (a b : List ℕ) → AnswersNoForm s a → AnswersNoForm t b → (s ≡ t) × (a ≡ b)
