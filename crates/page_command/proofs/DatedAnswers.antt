-- The answers to a proof text or a report by a day, from what the parts answer.
use Rattle.std.proofs.Common.{◌≡◌, ℕ, List, None, Some, Result, Ok, Err, IfOk}
use Rattle.model_rosters.specs.declared.instance.Instance.{Instance}
use Rattle.model_rosters.specs.declared.memory.Memory.{Memory}
use Rattle.page_labels.specs.LabelsOf.{labels_of}
use Rattle.page_labels.specs.declared.clock.Clock.{Clock}
use Rattle.page_labels.specs.declared.labels.Labels.{Labels}
use Rattle.command_answers.specs.declared.answer.Answer.{Answer}
use Rattle.page_views.specs.declared.kind.CalendarDay.{CalendarDay}
use Rattle.page_command.specs.Check.{RefusedLabels}
use Rattle.page_command.specs.Dated.{CalendarAnswers, ClockAnswers, no_clock_line, events_on}
use Rattle.page_command.specs.Dated as dated
use Rattle.page_command.specs.Report.{LineAnswers, RosterAnswers}
use Rattle.page_views.specs.declared.kind.Kind.TheVariants.{Calendar}

pub clock-told : (day : CalendarDay) (d : Labels) (c : Clock) (i : Instance) (text : List ℕ) (r : Result Answer Memory) → d.clock ≡ Some c
    → IfOk r (λ a. RosterAnswers (Calendar (events_on day c)) d None i text a.status a.output)
    → IfOk r (λ a. ClockAnswers day d i text a.status a.output)
clock-told day d c i text (Err e) clock h = tt
clock-told day d c i text (Ok a) clock h = dated.ClockAnswers.answered c a.status a.output clock h

pub no-clock-told : (day : CalendarDay) (d : Labels) (i : Instance) (text : List ℕ) (r : Result Answer Memory) → d.clock ≡ None
    → IfOk r (λ a. LineAnswers i text no_clock_line a.status a.output) → IfOk r (λ a. ClockAnswers day d i text a.status a.output)
no-clock-told day d i text (Err e) clock h = tt
no-clock-told day d i text (Ok a) clock h = dated.ClockAnswers.no_clock a.status a.output clock h

pub labels-read : (day : CalendarDay) (labels : List ℕ) (d : Labels) (i : Instance) (text : List ℕ) (r : Result Answer Memory) → labels_of i labels ≡ Ok d
    → IfOk r (λ a. ClockAnswers day d i text a.status a.output) → IfOk r (λ a. CalendarAnswers day labels i text a.status a.output)
labels-read day labels d i text (Err e) reading h = tt
labels-read day labels d i text (Ok a) reading h = dated.CalendarAnswers.read d a.status a.output reading h

pub labels-refused-said : (day : CalendarDay) (labels : List ℕ) (i : Instance) (text : List ℕ) (r : Result Answer Memory)
    → IfOk r (λ a. RefusedLabels labels i text a.status a.output) → IfOk r (λ a. CalendarAnswers day labels i text a.status a.output)
labels-refused-said day labels i text (Err e) h = tt
labels-refused-said day labels i text (Ok a) h = dated.CalendarAnswers.labels_refused a.status a.output h
