-- No answer has the status of a refusal of the shelf.
use Rattle.std.proofs.Common.{◌≢◌, ℕ, List, Option, None, Some, arith, refl}
use Rattle.model_rosters.specs.declared.instance.Instance.{Instance}
use Rattle.model_rosters.specs.declared.instance.Shift.{Shift}
use Rattle.check_certificates.specs.declared.cert.Cert.{Cert}
use Rattle.page_labels.specs.Labels.{nothing}
use Rattle.page_labels.specs.declared.labels.Labels.{Labels}
use Rattle.command_answers.specs.Statuses.{ends_at, proof-ends}
use Rattle.page_command.specs.Check.{BesideAnswers, LabelAnswers, OldAnswers, Request, RequestAnswers, UnderAnswers, kind_by}
use Rattle.page_command.specs.Check as check
use Rattle.page_command.specs.Dated.{CalendarAnswers, ClockAnswers, no_clock_line, events_on}
use Rattle.page_command.specs.Dated as dated
use Rattle.page_command.specs.Judgement.{Judgement, StatedJudgement}
use Rattle.page_command.specs.Judgement as judgement
use Rattle.page_command.specs.Report.{LineAnswers, ReportAnswers, RosterAnswers}
use Rattle.page_command.specs.Report as report
use Rattle.page_views.specs.Shown.{Showing, certified, stated}
use Rattle.page_views.specs.Shown as showing
use Rattle.page_views.specs.declared.kind.Kind.{Kind}
use Rattle.page_views.specs.declared.kind.Kind.TheVariants.{Calendar}
use Rattle.page_views.specs.declared.roster.ShownRoster.{ShownRoster}
use Rattle.page_views.specs.declared.kind.CalendarDay.{CalendarDay}

showing-ends : (k : Kind) (d : Labels) (i : Instance) (r : ShownRoster) (old : Option (List Shift)) (s : ℕ)
    (output : List ℕ) → Showing k d i r old s output → (s ≢ 6) × (s ≢ 7)
showing-ends k d i r old s output (showing.Showing.shown x e h) = ends_at s 0 refl (omega arith)
showing-ends k d i r old s output (showing.Showing.line_said x e) = ends_at s 5 refl (omega arith)

judged-ends : (k : Kind) (d : Labels) (old : Option (List Shift)) (i : Instance) (c : Cert) (s : ℕ)
    (output : List ℕ)
    → Judgement k d old i c s output → (s ≢ 6) × (s ≢ 7)
judged-ends k d old i c s output (judgement.Judgement.yes x o h) =
    showing-ends k d i (certified c) old s output h.shown
judged-ends k d old i c s output (judgement.Judgement.no x h) = ends_at s 1 refl (omega arith)

stated-ends : (k : Kind) (d : Labels) (old : Option (List Shift)) (i : Instance) (shifts : List Shift) (s : ℕ)
    (output : List ℕ) → StatedJudgement k d old i shifts s output → (s ≢ 6) × (s ≢ 7)
stated-ends k d old i shifts s output (judgement.StatedJudgement.allowed x o h) =
    showing-ends k d i (stated h.value) old s output h.shown
stated-ends k d old i shifts s output (judgement.StatedJudgement.not_allowed x h) =
    ends_at s 1 refl (omega arith)

module _ (k : Kind) (d : Labels) (old : Option (List Shift)) where
  report-ends : (i : Instance) (text : List ℕ) (s : ℕ) (output : List ℕ)
      → ReportAnswers k d old i text s output
      → (s ≢ 6) × (s ≢ 7)
  report-ends i text s output (report.ReportAnswers.accepted shifts x o e a) =
      stated-ends k d old i shifts s output a
  report-ends i text s output (report.ReportAnswers.refused o a) = ends_at s 5 refl (omega arith)

  pub roster-ends : (i : Instance) (text : List ℕ) (s : ℕ) (output : List ℕ)
      → RosterAnswers k d old i text s output
      → (s ≢ 6) × (s ≢ 7)
  roster-ends i text s output (report.RosterAnswers.by_proof x o e a) =
      proof-ends (Judgement k d old) (judged-ends k d old) i text s output a
  roster-ends i text s output (report.RosterAnswers.by_report x o e a) = report-ends i text s output a

line-ends : (i : Instance) (text line : List ℕ) (s : ℕ) (output : List ℕ) → LineAnswers i text line s output
    → (s ≢ 6) × (s ≢ 7)
line-ends i text line s output (report.LineAnswers.line_said o a l) = ends_at s 5 refl (omega arith)
line-ends i text line s output (report.LineAnswers.text_refused o a) = ends_at s 5 refl (omega arith)

old-ends : (k : Kind) (d : Labels) (old : List ℕ) (i : Instance) (text : List ℕ) (s : ℕ) (output : List ℕ)
    → OldAnswers k d old i text s output → (s ≢ 6) × (s ≢ 7)
old-ends k d old i text s output (check.OldAnswers.read shifts x o e a) =
    roster-ends k d (Some shifts) i text s output a
old-ends k d old i text s output (check.OldAnswers.old_refused x o a) =
    line-ends i text a.line s output a.answers

beside-ends : (k : Kind) (d : Labels) (old : Option (List ℕ)) (i : Instance) (text : List ℕ) (s : ℕ)
    (output : List ℕ)
    → BesideAnswers k d old i text s output → (s ≢ 6) × (s ≢ 7)
beside-ends k d None i text s output a = roster-ends k d None i text s output a
beside-ends k d (Some old) i text s output a = old-ends k d old i text s output a

-- nor has one under a labels text
label-ends : (k : Kind) (labels : List ℕ) (old : Option (List ℕ)) (i : Instance) (text : List ℕ) (s : ℕ)
    (output : List ℕ) → LabelAnswers k labels old i text s output → (s ≢ 6) × (s ≢ 7)
label-ends k labels old i text s output (check.LabelAnswers.answered d x o e a) =
    beside-ends k d old i text s output a
label-ends k labels old i text s output (check.LabelAnswers.labels_refused x o a) =
    line-ends i text a.line s output a.answers

under-ends : (k : Kind) (labels old : Option (List ℕ)) (i : Instance) (text : List ℕ) (s : ℕ)
    (output : List ℕ)
    → UnderAnswers k labels old i text s output → (s ≢ 6) × (s ≢ 7)
under-ends k None old i text s output a = beside-ends k nothing old i text s output a
under-ends k (Some labels) old i text s output a = label-ends k labels old i text s output a

pub request-ends : (r : Request) (demand : List ℕ) (i : Instance) (text : List ℕ) (s : ℕ) (output : List ℕ)
    → RequestAnswers r demand i text s output → (s ≢ 6) × (s ≢ 7)
request-ends r demand i text s output a = under-ends (kind_by r demand text) r.labels r.old i text s output a

clock-ends : (day : CalendarDay) (d : Labels) (i : Instance) (text : List ℕ) (s : ℕ) (output : List ℕ)
    → ClockAnswers day d i text s output → (s ≢ 6) × (s ≢ 7)
clock-ends day d i text s output (dated.ClockAnswers.answered c x o e a) =
    roster-ends (Calendar (events_on day c)) d None i text s output a
clock-ends day d i text s output (dated.ClockAnswers.no_clock x o e a) =
    line-ends i text no_clock_line s output a

-- nor has a calendar
pub calendar-ends : (day : CalendarDay) (labels : List ℕ) (i : Instance) (text : List ℕ) (s : ℕ)
    (output : List ℕ)
    → CalendarAnswers day labels i text s output → (s ≢ 6) × (s ≢ 7)
calendar-ends day labels i text s output (dated.CalendarAnswers.read d x o e a) =
    clock-ends day d i text s output a
calendar-ends day labels i text s output (dated.CalendarAnswers.labels_refused x o a) =
    line-ends i text a.line s output a.answers
