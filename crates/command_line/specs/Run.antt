-- What the program does, by its words.
use Rattle.std.specs.Prelude.{ℕ, [], ◌∷◌}
use Rattle.command_line.specs.Form.{Form, explain, rank, next, fits, check, value, rest, relax_rules, relax_demand, reuse, solve, curve, make, none}
use Rattle.command_shelf.specs.Shelf.{Told}
use Rattle.command_texts.specs.Check.{Judgement}
use Rattle.command_texts.specs.Days.{RankFrom, NextFrom, FitsFrom}
use Rattle.command_texts.specs.Explain.{DerivationFrom}
use Rattle.command_answers.specs.Reader.{IsReader}
use Rattle.command_answers.specs.RulesCommands.{RulesCommand}
use Rattle.command_answers.specs.Says.{CertCommand}
use Rattle.command_texts.specs.Start.{AnswersNoForm}
use Rattle.command_answers.specs.TextCommands.{TextCommand}
use Rattle.command_searches.specs.CurveAnswers.{CurveAnswers, MayStoreDay}
use Rattle.command_searches.specs.Make.{AnswersMake}
use Rattle.command_searches.specs.Reuse.{Reusing}
use Rattle.command_searches.specs.Series.{IsSeriesWriter}
use Rattle.command_searches.specs.Solve.{MasterView, from_names}
use Rattle.command_searches.specs.SolveAnswers.{SolveAnswers}
use Rattle.command_searches.specs.Writer.{IsWriter}
use Rattle.command_texts.specs.relax.Answers.{RelaxedRules, RelaxedDemand}
use Rattle.command_texts.specs.relax.DayCommands.{DayCommand}
use Rattle.command_texts.specs.what_if.Rest.{Resting}
use Rattle.command_texts.specs.what_if.Value.{Valuation}

-- over a shelf before and after, and with a master that was lent
abbrev pub Does : Form → Told → Told → MasterView → ℕ → Type 0
Does (explain rules word start) before after m status =
    IsReader (RulesCommand (λ g s o. DerivationFrom word start g s o) before.held rules) (rules ∷ [])
    before after status
Does (rank rules most start) before after m status =
    IsReader (RulesCommand (λ g s o. RankFrom most start g s o) before.held rules) (rules ∷ []) before after status
Does (next rules prefix start) before after m status =
    IsReader (RulesCommand (λ g s o. NextFrom prefix start g s o) before.held rules) (rules ∷ [])
    before after status
Does (fits rules pattern start) before after m status =
    IsReader (RulesCommand (λ g s o. FitsFrom pattern start g s o) before.held rules) (rules ∷ [])
    before after status
Does (check rules demand proof) before after m status =
    IsReader (CertCommand Judgement before.held rules demand proof) (rules ∷ demand ∷ proof ∷ [])
    before after status
Does (value rules demand roster) before after m status =
    IsReader (TextCommand Valuation before.held rules demand roster) (rules ∷ demand ∷ roster ∷ [])
    before after status
Does (rest rules demand roster) before after m status =
    IsReader (TextCommand Resting before.held rules demand roster) (rules ∷ demand ∷ roster ∷ [])
    before after status
Does (relax_rules rules) before after m status =
    IsReader (RulesCommand RelaxedRules before.held rules) (rules ∷ []) before after status
Does (relax_demand kind rules demand) before after m status =
    IsReader (DayCommand (RelaxedDemand kind) before.held rules demand) (rules ∷ demand ∷ []) before after status
Does (reuse rules demand proof) before after m status =
    IsReader (CertCommand Reusing before.held rules demand proof) (rules ∷ demand ∷ proof ∷ []) before after status
Does (solve rules demand proof limit from) before after m status =
    IsWriter (SolveAnswers before.held rules demand from m limit) (rules ∷ demand ∷ from_names from) proof
    before after status
Does (curve rules demand proof limit group) before after m status =
    IsSeriesWriter (CurveAnswers before.held rules demand group proof m limit)
    (rules ∷ demand ∷ []) (MayStoreDay proof group rules demand) before after status
Does (make number proof limit) before after m status =
    IsWriter (AnswersMake number m limit) [] proof before after status
Does none before after m status = IsReader AnswersNoForm [] before after status
