-- The answers to a proof text or a report, from what the parts answer.
use Rattle.std.proofs.Common.{◌≡◌, ◌≢◌, ℕ, true, false, List, Option, Some, Result, Ok, Err, IfOk}
use Rattle.model_rosters.specs.declared.instance.Instance.{Instance}
use Rattle.model_rosters.specs.declared.instance.Shift.{Shift}
use Rattle.model_rosters.specs.declared.memory.Memory.{Memory}
use Rattle.check_certificates.specs.declared.cert.Cert.{Cert}
use Rattle.check_certificates.specs.declared.verdict.Verdict.{Verdict}
use Rattle.check_certificates.specs.declared.verdict.Verdict.TheVariants.{Yes, No}
use Rattle.check_certificates.specs.declared.why.Why.{Why}
use Rattle.check_certificates.specs.certificate_laws.Accepted.{Accepts}
use Rattle.check_proofs.specs.declared.judged.Judged.TheVariants.{Said, Fault}
use Rattle.check_proofs.specs.Judging.{IsJudged}
use Rattle.text_proof_pieces.specs.CertOf.{proof_of, proof_fault}
use Rattle.text_proof_pieces.specs.FaultLine as proof
use Rattle.text_proof_pieces.specs.declared.fault.PieceFault.{PieceFault}
use Rattle.text_answers.specs.VerdictText.{verdict_text}
use Rattle.page_labels.specs.LabelsOf.{labels_of}
use Rattle.page_labels.specs.declared.labels.Labels.{Labels}
use Rattle.check_values.specs.Answers.{StatedAnswer}
use Rattle.check_values.specs.Answers as values
use Rattle.check_values.specs.Values.{AreCauses, IsValued}
use Rattle.check_values.specs.declared.cause.Cause.{Cause}
use Rattle.check_values.specs.declared.valued.Valued.{Valued}
use Rattle.check_values.proofs.ValuedRosters.{value-costs}
use Rattle.check_values.specs.stated_rosters.FaultLine as roster
use Rattle.check_values.specs.stated_rosters.RosterOf.{roster_of}
use Rattle.check_values.specs.declared.stated_rosters.fault.RosterFault.{RosterFault}
use Rattle.check_values.specs.declared.stated_rosters.fault.RosterFault.TheVariants as roster_faults
use Rattle.command_answers.specs.declared.answer.Answer.{Answer}
use Rattle.command_answers.specs.Asked.{ProofAnswers}
use Rattle.command_answers.specs.Asked as asked
use Rattle.page_command.specs.Check.{BesideAnswers, LabelAnswers, OldAnswers, RefusedLabels, SaysLabelFault}
use Rattle.page_command.specs.Check as check
use Rattle.page_command.specs.Judgement.{Judgement, StatedJudgement}
use Rattle.page_command.specs.Judgement as judgement
use Rattle.page_command.specs.Old.{RefusedOld, SaysOldFault, old_of}
use Rattle.page_command.specs.Report.{LineAnswers, ReportAnswers, RosterAnswers, is_report}
use Rattle.page_command.specs.Report as report
use Rattle.page_views.specs.Shown.{Showing, certified, stated}
use Rattle.page_views.specs.declared.kind.Kind.{Kind}

-- the text tells a certificate that is accepted, where the verdict is a yes
pub yes-accepted : (i : Instance) (text : List ℕ) (cost bound : Option ℕ) → IsJudged i text (Said (Yes cost bound)) → (c : Cert) × (proof_of i text ≡ Ok c) × Accepts i c
yes-accepted i text cost bound judged = (judged.0, judged.1, judged.2.0)

module _ (k : Kind) (d : Labels) (old : Option (List Shift)) (i : Instance) where
  pub proof-drawn : (text : List ℕ) (cost bound : Option ℕ) (r : Result Answer Memory) → IsJudged i text (Said (Yes cost bound))
      → IfOk r (λ a. (c : Cert) → proof_of i text ≡ Ok c → Showing k d i (certified c) old a.status a.output)
      → IfOk r (λ a. ProofAnswers (Judgement k d old) i text a.status a.output)
  proof-drawn text cost bound (Err e) judged h = tt
  proof-drawn text cost bound (Ok a) judged h =
      asked.ProofAnswers.accepted judged.0 a.status a.output judged.1 (judgement.Judgement.yes a.status a.output (record { accepted = judged.2.0; trusted = judged.2.3; shown = h judged.0 judged.1 }))

  pub proof-refused-why : (text : List ℕ) (why : Why) (r : Result Answer Memory) → IsJudged i text (Said (No why))
      → IfOk r (λ a. (a.status ≡ 1) × (a.output ≡ verdict_text (No why))) → IfOk r (λ a. ProofAnswers (Judgement k d old) i text a.status a.output)
  proof-refused-why text why (Err e) judged h = tt
  proof-refused-why text why (Ok a) judged h =
      rw h.0 (asked.ProofAnswers.accepted judged.0 1 a.output judged.1 (judgement.Judgement.no a.output (record { why = why; cause = judged.2; line = h.1 })))

  -- a stated roster
  pub stated-allowed : (shifts : List Shift) (v : Valued) (r : Result Answer Memory) → IsValued i shifts v → IfOk r (λ a. Showing k d i (stated v) old a.status a.output)
      → IfOk r (λ a. StatedJudgement k d old i shifts a.status a.output)
  stated-allowed shifts v (Err e) is h = tt
  stated-allowed shifts v (Ok a) is h =
      judgement.StatedJudgement.allowed a.status a.output (record { value = v; is = is; costs = value-costs i shifts v is; shown = h })

  causes-told : (shifts : List Shift) (causes : List Cause) (s : ℕ) (output : List ℕ) → AreCauses i shifts causes → StatedAnswer i shifts s output → StatedJudgement k d old i shifts s output
  causes-told shifts causes s output are (values.StatedAnswer.allowed x h) = absurd (are.never h.value.cost h.costs)
  causes-told shifts causes s output are (values.StatedAnswer.refused x h) = judgement.StatedJudgement.not_allowed output h

  pub stated-refused : (shifts : List Shift) (causes : List Cause) (r : Result Answer Memory) → AreCauses i shifts causes → IfOk r (λ a. StatedAnswer i shifts a.status a.output)
      → IfOk r (λ a. StatedJudgement k d old i shifts a.status a.output)
  stated-refused shifts causes (Err e) are h = tt
  stated-refused shifts causes (Ok a) are h = causes-told shifts causes a.status a.output are h

  -- a report
  pub report-read : (text : List ℕ) (shifts : List Shift) (r : Result Answer Memory) → roster_of i text ≡ Ok shifts → IfOk r (λ a. StatedJudgement k d old i shifts a.status a.output)
      → IfOk r (λ a. ReportAnswers k d old i text a.status a.output)
  report-read text shifts (Err e) reading h = tt
  report-read text shifts (Ok a) reading h = report.ReportAnswers.accepted shifts a.status a.output reading h

  pub report-refused : (text : List ℕ) (fault : RosterFault) (r : Result Answer Memory) → (fault ≢ roster_faults.Memory → roster_of i text ≡ Err fault)
      → IfOk r (λ a. (fault ≢ roster_faults.Memory) × (a.status ≡ 5) × (a.output ≡ roster.fault_line fault)) → IfOk r (λ a. ReportAnswers k d old i text a.status a.output)
  report-refused text fault (Err e) reading h = tt
  report-refused text fault (Ok a) reading h = rw h.1 (report.ReportAnswers.refused a.output (record { fault = fault; reading = reading h.0; line = h.2 }))

  -- a proof text, or a report in its place
  pub by-proof : (text : List ℕ) (r : Result Answer Memory) → is_report text ≡ false → IfOk r (λ a. ProofAnswers (Judgement k d old) i text a.status a.output)
      → IfOk r (λ a. RosterAnswers k d old i text a.status a.output)
  by-proof text (Err e) is h = tt
  by-proof text (Ok a) is h = report.RosterAnswers.by_proof a.status a.output is h

  pub by-report : (text : List ℕ) (r : Result Answer Memory) → is_report text ≡ true → IfOk r (λ a. ReportAnswers k d old i text a.status a.output)
      → IfOk r (λ a. RosterAnswers k d old i text a.status a.output)
  by-report text (Err e) is h = tt
  by-report text (Ok a) is h = report.RosterAnswers.by_report a.status a.output is h

-- a line in place of what would be shown
module _ (i : Instance) (text line : List ℕ) where
  pub line-for-proof : (v : Verdict) (r : Result Answer Memory) → is_report text ≡ false → IsJudged i text (Said v) → IfOk r (λ a. (a.status ≡ 5) × (a.output ≡ line))
      → IfOk r (λ a. LineAnswers i text line a.status a.output)
  line-for-proof v (Err e) is judged h = tt
  line-for-proof v (Ok a) is judged h = rw h.0 (report.LineAnswers.line_said a.output (report.IsRead.proof_read judged.0 is judged.1) h.1)

  pub line-proof-refused : (fault : PieceFault) (r : Result Answer Memory) → is_report text ≡ false → IsJudged i text (Fault fault)
      → IfOk r (λ a. (a.status ≡ 5) × (a.output ≡ proof.fault_line (proof_fault fault))) → IfOk r (λ a. LineAnswers i text line a.status a.output)
  line-proof-refused fault (Err e) is judged h = tt
  line-proof-refused fault (Ok a) is judged h =
      rw h.0 (report.LineAnswers.text_refused a.output (report.SaysTextFault.proof_refused is (record { fault = proof_fault fault; reading = judged; line = h.1 })))

  pub line-for-report : (shifts : List Shift) (r : Result Answer Memory) → is_report text ≡ true → roster_of i text ≡ Ok shifts → IfOk r (λ a. (a.status ≡ 5) × (a.output ≡ line))
      → IfOk r (λ a. LineAnswers i text line a.status a.output)
  line-for-report shifts (Err e) is reading h = tt
  line-for-report shifts (Ok a) is reading h = rw h.0 (report.LineAnswers.line_said a.output (report.IsRead.report_read shifts is reading) h.1)

  pub line-report-refused : (fault : RosterFault) (r : Result Answer Memory) → is_report text ≡ true → (fault ≢ roster_faults.Memory → roster_of i text ≡ Err fault)
      → IfOk r (λ a. (fault ≢ roster_faults.Memory) × (a.status ≡ 5) × (a.output ≡ roster.fault_line fault)) → IfOk r (λ a. LineAnswers i text line a.status a.output)
  line-report-refused fault (Err e) is reading h = tt
  line-report-refused fault (Ok a) is reading h =
      rw h.1 (report.LineAnswers.text_refused a.output (report.SaysTextFault.report_refused is (record { fault = fault; reading = reading h.0; line = h.2 })))

-- a labels text or an old text that is refused
pub labels-line : (labels : List ℕ) (i : Instance) (text line : List ℕ) (r : Result Answer Memory) → SaysLabelFault i labels line
    → IfOk r (λ a. LineAnswers i text line a.status a.output) → IfOk r (λ a. RefusedLabels labels i text a.status a.output)
labels-line labels i text line (Err e) fault h = tt
labels-line labels i text line (Ok a) fault h = record { line = line; fault = fault; answers = h }

pub old-line : (old : List ℕ) (i : Instance) (text line : List ℕ) (r : Result Answer Memory) → SaysOldFault i old line
    → IfOk r (λ a. LineAnswers i text line a.status a.output) → IfOk r (λ a. RefusedOld old i text a.status a.output)
old-line old i text line (Err e) fault h = tt
old-line old i text line (Ok a) fault h = record { line = line; fault = fault; answers = h }

-- under labels
module _ (k : Kind) (d : Labels) (i : Instance) (text : List ℕ) where
  pub old-read : (old : List ℕ) (shifts : List Shift) (r : Result Answer Memory) → old_of i old ≡ Ok shifts → IfOk r (λ a. RosterAnswers k d (Some shifts) i text a.status a.output)
      → IfOk r (λ a. OldAnswers k d old i text a.status a.output)
  old-read old shifts (Err e) reading h = tt
  old-read old shifts (Ok a) reading h = check.OldAnswers.read shifts a.status a.output reading h

  pub old-refused : (old : List ℕ) (r : Result Answer Memory) → IfOk r (λ a. RefusedOld old i text a.status a.output) → IfOk r (λ a. OldAnswers k d old i text a.status a.output)
  old-refused old (Err e) h = tt
  old-refused old (Ok a) h = check.OldAnswers.old_refused a.status a.output h

  pub labels-read : (labels : List ℕ) (old : Option (List ℕ)) (r : Result Answer Memory) → labels_of i labels ≡ Ok d → IfOk r (λ a. BesideAnswers k d old i text a.status a.output)
      → IfOk r (λ a. LabelAnswers k labels old i text a.status a.output)
  labels-read labels old (Err e) reading h = tt
  labels-read labels old (Ok a) reading h = check.LabelAnswers.answered d a.status a.output reading h

pub labels-refused : (k : Kind) (labels : List ℕ) (old : Option (List ℕ)) (i : Instance) (text : List ℕ) (r : Result Answer Memory) → IfOk r (λ a. RefusedLabels labels i text a.status a.output)
    → IfOk r (λ a. LabelAnswers k labels old i text a.status a.output)
labels-refused k labels old i text (Err e) h = tt
labels-refused k labels old i text (Ok a) h = check.LabelAnswers.labels_refused a.status a.output h
