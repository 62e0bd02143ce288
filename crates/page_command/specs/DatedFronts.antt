-- A text and its first bytes, up to one above its limit, are answered alike by a calendar.
use Rattle.std.proofs.Common.{◌<◌, ◌∙◌, ℕ, List, None, length, sym, subst, inl, inr}
use Rattle.model_rosters.specs.declared.instance.Instance.{Instance}
use Rattle.page_labels.specs.declared.labels.Labels.{Labels}
use Rattle.command_shelf.specs.Shelf.{front_to}
use Rattle.command_answers.specs.Fronts.{front-cases}
use Rattle.page_views.specs.declared.kind.CalendarDay.{CalendarDay}
use Rattle.page_command.specs.Dated.{CalendarAnswers, ClockAnswers, no_clock_line, events_on}
use Rattle.page_command.specs.Dated as dated
use Rattle.page_command.specs.Fronts.{labels-alike, labels-refused-whole, line-whole, long-roster}
use Rattle.page_views.specs.declared.kind.Kind.TheVariants.{Calendar}

-- a third text over the limit is refused
long-clock : (day : CalendarDay) (d : Labels) (i : Instance) (text : List ℕ) (s : ℕ) (output : List ℕ)
    → 1073741824 < length (front_to 1073741824 text)
    → ClockAnswers day d i (front_to 1073741824 text) s output
    → ClockAnswers day d i text s output
long-clock day d i text s output lt (dated.ClockAnswers.answered c t x e a) =
    dated.ClockAnswers.answered c t x e
    (long-roster (Calendar (events_on day c)) (Calendar (events_on day c)) d None i text t x lt a)
long-clock day d i text s output lt (dated.ClockAnswers.no_clock t x e a) =
    dated.ClockAnswers.no_clock t x e (line-whole i text no_clock_line t x a)

module _ (day : CalendarDay) (labels : List ℕ) (i : Instance) (text : List ℕ) where
  long-calendar : (s : ℕ) (output : List ℕ) → 1073741824 < length (front_to 1073741824 text)
      → CalendarAnswers day labels i (front_to 1073741824 text) s output
      → CalendarAnswers day labels i text s output
  long-calendar s output lt (dated.CalendarAnswers.read d t x e a) =
      dated.CalendarAnswers.read d t x e
      (long-clock day d i text t x lt a)
  long-calendar s output lt (dated.CalendarAnswers.labels_refused t x a) =
      dated.CalendarAnswers.labels_refused t x
      (record { line = a.line; fault = a.fault; answers = line-whole i text a.line t x a.answers })

  pub calendar-fronts : (s : ℕ) (output : List ℕ)
      → CalendarAnswers day labels i (front_to 1073741824 text) s output
      → CalendarAnswers day labels i text s output
  calendar-fronts s output a = elim (front-cases 1073741824 text) [
    | inl over ↦ long-calendar s output over.1 a
    | inr same ↦ subst (λ (t : List ℕ). CalendarAnswers day labels i t s output) same a
  ]

  pub calendar-labels-whole : (s : ℕ) (output : List ℕ)
      → CalendarAnswers day (front_to 65536 labels) i text s output
      → CalendarAnswers day labels i text s output
  calendar-labels-whole s output (dated.CalendarAnswers.read d t x e a) =
      dated.CalendarAnswers.read d t x (sym (labels-alike i labels) ∙ e) a
  calendar-labels-whole s output (dated.CalendarAnswers.labels_refused t x a) =
      dated.CalendarAnswers.labels_refused t x (labels-refused-whole labels i text t x a)
