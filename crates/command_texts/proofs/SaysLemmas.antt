-- A command's answers, one data a command, are those that its parts say one after another, and the other way round.
use Rattle.std.proofs.Common.{ℕ, List, [], ◌∷◌, Option}
use Rattle.model_rosters.specs.declared.grammar.Grammar.{Grammar}
use Rattle.command_shelf.specs.Shelf.{Texts, Told}
use Rattle.command_texts.specs.Days.{AnswersDay}
use Rattle.command_texts.specs.Days as days
use Rattle.command_answers.specs.RulesCommands.{RulesCommand}
use Rattle.command_answers.specs.RulesCommands as rules_commands
use Rattle.command_answers.specs.Fetch.{IsFetchTo, NoAnswer}
use Rattle.command_answers.specs.Reader.{IsReader}
use Rattle.command_answers.proofs.Readers.{widen}
use Rattle.command_texts.proofs.Days.{day-read}

module _ (A : Grammar → ℕ → List ℕ → Type 0) (held : Option Texts) (rules : List ℕ) where
  pub as-rules-command : (status : ℕ) (output : List ℕ) → AnswersDay A held rules status output → RulesCommand A held rules status output
  as-rules-command status output h = by status output h.2
    where
      by : (s : ℕ) (o : List ℕ) → days.DayAnswer A h.0 s o → RulesCommand A held rules s o
      by s o (days.accepted g s2 o2 is a) = rules_commands.answered g s2 o2 (record { text = h.0; holds = h.1; says = is }) a
      by s o (days.refused o2 f) = rules_commands.rules_refused o2 (record { text = h.0; holds = h.1; fault = f })

  pub as-day : (status : ℕ) (output : List ℕ) → RulesCommand A held rules status output → AnswersDay A held rules status output
  as-day status output (rules_commands.answered g s o say a) = (say.text, say.holds, days.accepted g s o say.says a)
  as-day status output (rules_commands.rules_refused o r) = (r.text, r.holds, days.refused o r.fault)

-- a command that was refused its text
unread-command : (A : Grammar → ℕ → List ℕ → Type 0) (name : List ℕ) (before after : Told) (status : ℕ) → IsReader NoAnswer (name ∷ []) before after status
    → IsReader (RulesCommand A before.held name) (name ∷ []) before after status
unread-command A name before after status reader =
    widen NoAnswer (RulesCommand A before.held name) (λ s o k. absurd k) (name ∷ []) (name ∷ []) before after status (λ k. k) reader

-- commands that fetched their rules text
module _ (A : Grammar → ℕ → List ℕ → Type 0) where
  pub day-command-read : (name front : List ℕ) (before middle after : Told) (status : ℕ) → IsFetchTo 1048576 name before middle front
      → IsReader (λ s o. days.DayAnswer A front s o) [] middle after status → IsReader (RulesCommand A before.held name) (name ∷ []) before after status
  day-command-read name front before middle after status f reader =
      widen (λ s o. AnswersDay A before.held name s o) (RulesCommand A before.held name) (as-rules-command A before.held name) (name ∷ []) (name ∷ []) before after status (λ k. k)
      (day-read A name front before middle after status f reader)

  pub day-command-unread : (name : List ℕ) (before after : Told) (status : ℕ) → IsReader NoAnswer (name ∷ []) before after status
      → IsReader (RulesCommand A before.held name) (name ∷ []) before after status
  day-command-unread name before after status reader = unread-command A name before after status reader
