-- What is answered to a proof text, or to a report in its place.
use Rattle.std.specs.Prelude.{ℕ, ◌≡◌, Bool, true, false, ◌&&◌, nat_le, length, Option, List, Ok}
use Rattle.model_rosters.specs.declared.instance.Instance.{Instance}
use Rattle.model_rosters.specs.declared.instance.Shift.{Shift}
use Rattle.check_certificates.specs.declared.cert.Cert.{Cert}
use Rattle.page_labels.specs.declared.labels.Labels.{Labels}
use Rattle.text_proof_pieces.specs.CertOf.{proof_of}
use Rattle.check_values.specs.stated_rosters.RosterOf.{begins_report, roster_of}
use Rattle.text_lines.specs.Lines.{text_items}
use Rattle.command_answers.specs.Asked.{ProofAnswers}
use Rattle.command_answers.specs.Readings.{SaysProofFault}
use Rattle.command_texts.specs.what_if.Value.{SaysRosterFault}
use Rattle.page_command.specs.Judgement.{Judgement, StatedJudgement}
use Rattle.page_views.specs.declared.kind.Kind.{Kind}

-- the first line is that of a report, and the text has no more bytes than a proof text may have
unfoldable pub is_report : List ℕ → Bool
is_report text = nat_le (length text) 1073741824 && begins_report (text_items text)

-- the answers to a report, which is read as `value` reads a roster
pub data ReportAnswers (k : Kind) (d : Labels) (old : Option (List Shift)) (i : Instance) (text : List ℕ) :
    ℕ → List ℕ → Type 0 where
  accepted : (shifts : List Shift) (status : ℕ) (output : List ℕ) → roster_of i text ≡ Ok shifts
      → StatedJudgement k d old i shifts status output → ReportAnswers k d old i text status output
  refused : (output : List ℕ) → SaysRosterFault i text output → ReportAnswers k d old i text 5 output

-- the answers to a proof text, or to a report in its place
pub data RosterAnswers (k : Kind) (d : Labels) (old : Option (List Shift)) (i : Instance) (text : List ℕ) :
    ℕ → List ℕ → Type 0 where
  by_proof : (status : ℕ) (output : List ℕ) → is_report text ≡ false
      → ProofAnswers (Judgement k d old) i text status output → RosterAnswers k d old i text status output
  by_report : (status : ℕ) (output : List ℕ) → is_report text ≡ true
      → ReportAnswers k d old i text status output → RosterAnswers k d old i text status output

-- the text tells a certificate, or the roster of a report
pub data IsRead (i : Instance) (text : List ℕ) : Type 0 where
  proof_read : (c : Cert) → is_report text ≡ false → proof_of i text ≡ Ok c → IsRead i text
  report_read : (shifts : List Shift) → is_report text ≡ true → roster_of i text ≡ Ok shifts → IsRead i text

-- status 5: the proof text or the report is refused
pub data SaysTextFault (i : Instance) (text output : List ℕ) : Type 0 where
  proof_refused : is_report text ≡ false → SaysProofFault i text output → SaysTextFault i text output
  report_refused : is_report text ≡ true → SaysRosterFault i text output → SaysTextFault i text output

-- a line in place of what would be shown, or the fault of the proof text or the report, which comes first
pub data LineAnswers (i : Instance) (text line : List ℕ) : ℕ → List ℕ → Type 0 where
  line_said : (output : List ℕ) → IsRead i text → output ≡ line → LineAnswers i text line 5 output
  text_refused : (output : List ℕ) → SaysTextFault i text output → LineAnswers i text line 5 output
