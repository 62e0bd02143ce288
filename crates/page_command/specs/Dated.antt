-- What the program answers to four texts and a day: the calendar of the roster where the certificate is
-- accepted or the roster of the report allowed, and where not the lines of `check` or of `value`.
use Rattle.std.specs.Prelude.{ℕ, ◌≡◌, List, Option, None, Some, Ok, codes}
use Rattle.model_rosters.specs.declared.instance.Instance.{Instance}
use Rattle.page_labels.specs.LabelsOf.{labels_of}
use Rattle.page_labels.specs.declared.clock.Clock.{Clock}
use Rattle.page_labels.specs.declared.labels.Labels.{Labels}
use Rattle.command_shelf.specs.Shelf.{Texts}
use Rattle.command_answers.specs.Asked.{TextsAnswers}
use Rattle.command_answers.specs.Reader.{Holds}
use Rattle.page_views.specs.declared.kind.CalendarDay.{CalendarDay}
use Rattle.page_command.specs.Check.{RefusedLabels}
use Rattle.page_command.specs.Report.{LineAnswers, RosterAnswers}
use Rattle.page_views.specs.declared.kind.DayEvents.{DayEvents}
use Rattle.page_views.specs.declared.kind.Kind.TheVariants.{Calendar}

-- what is said where a labels text tells no clock
abbrev pub no_clock_line : List ℕ
no_clock_line = codes "labels: no clock line\n"

-- what all events of a calendar share, and whose they are
abbrev pub events_on : CalendarDay → Clock → DayEvents
events_on day clock = record { setting = record { date = day.date; clock = clock }; shift = day.shift }

-- the answers to a proof text or a report under labels that tell this clock or none
pub data ClockAnswers (day : CalendarDay) (d : Labels) (i : Instance) (text : List ℕ) : ℕ → List ℕ
    → Type 0 where
  answered : (c : Clock) (status : ℕ) (output : List ℕ) → d.clock ≡ Some c
      → RosterAnswers (Calendar (events_on day c)) d None i text status output
      → ClockAnswers day d i text status output
  no_clock : (status : ℕ) (output : List ℕ) → d.clock ≡ None → LineAnswers i text no_clock_line status output
      → ClockAnswers day d i text status output

-- the answers to a proof text or a report by a day and a labels text
pub data CalendarAnswers (day : CalendarDay) (labels : List ℕ) (i : Instance) (text : List ℕ) :
    ℕ → List ℕ → Type 0 where
  read : (d : Labels) (status : ℕ) (output : List ℕ) → labels_of i labels ≡ Ok d
      → ClockAnswers day d i text status output
      → CalendarAnswers day labels i text status output
  labels_refused : (status : ℕ) (output : List ℕ) → RefusedLabels labels i text status output
      → CalendarAnswers day labels i text status output

-- the answers to a day, a rules text and a labels text, and then to the demand and proof texts under names
pub record AnswersDatedTexts (day : CalendarDay) (held : Option Texts)
    (rules labels demand_name proof_name : List ℕ)
    (status : ℕ) (output : List ℕ) : Type 0 where
  pub text : List ℕ
  pub holds : Holds held demand_name text
  pub answers : TextsAnswers (CalendarAnswers day labels) held rules text proof_name status output

-- the same, where the labels text stands under a name
pub record AnswersDatedLabels (day : CalendarDay) (held : Option Texts)
    (rules demand_name proof_name labels_name : List ℕ)
    (status : ℕ) (output : List ℕ) : Type 0 where
  pub text : List ℕ
  pub holds : Holds held labels_name text
  pub answers : AnswersDatedTexts day held rules text demand_name proof_name status output

-- the answers to a day and four texts under names
pub record AnswersDated (day : CalendarDay) (held : Option Texts)
    (name demand_name proof_name labels_name : List ℕ)
    (status : ℕ) (output : List ℕ) : Type 0 where
  pub text : List ℕ
  pub holds : Holds held name text
  pub answers : AnswersDatedLabels day held text demand_name proof_name labels_name status output
