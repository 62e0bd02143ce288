-- A text and its first bytes, up to one above its limit, are answered alike.
use Rattle.std.proofs.Common.{◌≡◌, ◌<◌, ◌≤◌, ◌∙◌, ℕ, Bool, true, false, cond, List, Option, None, Some, Result, Ok, Err, length, arith, ap, refl, sym, subst, inl, inr}
use Rattle.std.proofs.lemmas.Bool.{lt-leb}
use Rattle.model_rosters.specs.declared.instance.Instance.{Instance}
use Rattle.model_rosters.specs.declared.instance.Shift.{Shift}
use Rattle.check_certificates.specs.declared.cert.Cert.{Cert}
use Rattle.text_proof_pieces.specs.CertOf.{proof_of}
use Rattle.text_proof_pieces.specs.declared.fault.ProofFault.{ProofFault}
use Rattle.check_values.specs.stated_rosters.RosterOf.{roster_of}
use Rattle.check_values.specs.declared.stated_rosters.fault.RosterFault.{RosterFault}
use Rattle.page_labels.specs.LabelsOf.{item_at, labels_of}
use Rattle.page_labels.specs.Labels.{nothing}
use Rattle.page_labels.specs.Steps.{each}
use Rattle.page_labels.specs.TextLines.{text_items}
use Rattle.page_labels.specs.declared.fault.LabelFault.{LabelFault}
use Rattle.page_labels.specs.declared.fault.LabelFault.TheVariants.{TooLong}
use Rattle.page_labels.specs.declared.labels.Labels.{Labels}
use Rattle.command_shelf.specs.Shelf.{front_to}
use Rattle.command_answers.specs.Asked as asked
use Rattle.command_answers.specs.Fronts.{alike, front-cases, over_limit}
use Rattle.command_answers.specs.ProofFronts.{long-proof, proof-alike, proof-fault-whole}
use Rattle.command_texts.specs.what_if.Fronts.{roster-alike-to, roster-fault-whole}
use Rattle.page_command.specs.Check.{BesideAnswers, LabelAnswers, OldAnswers, RefusedLabels, Request, RequestAnswers, UnderAnswers, kind_by}
use Rattle.page_command.specs.Check as check
use Rattle.page_command.specs.Judgement.{Judgement}
use Rattle.page_command.specs.Old.{RefusedOld, of_proof, of_report, old_of}
use Rattle.page_command.specs.Report.{IsRead, LineAnswers, RosterAnswers, SaysTextFault, is_report}
use Rattle.page_command.specs.Report as report
use Rattle.page_views.specs.declared.kind.Kind.{Kind}
use Rattle.page_command.specs.declared.old_fault.OldFault.{OldFault}

-- a text over the limit is no report
pub long-report : (text : List ℕ) → 1073741824 < length text → is_report text ≡ false
unfolding is_report
long-report text lt = rw (lt-leb (length text) 1073741824 lt) refl

report-alike : (text : List ℕ) → is_report (front_to 1073741824 text) ≡ is_report text
report-alike text = elim (front-cases 1073741824 text) [
  | inl over ↦ long-report (front_to 1073741824 text) over.1 ∙ sym (long-report text over.0)
  | inr same ↦ ap (λ (t : List ℕ). is_report t) same
]

enough : 1048576 ≤ 1073741824
enough = omega arith

stated-alike : (i : Instance) (text : List ℕ) → roster_of i (front_to 1073741824 text) ≡ roster_of i text
stated-alike i text = roster-alike-to 1073741824 enough i text

pub labels-alike : (i : Instance) (text : List ℕ) → labels_of i (front_to 65536 text) ≡ labels_of i text
unfolding labels_of
labels-alike i text = alike 65536 65536 refusal reading text (omega arith)
  where
    refusal : Result Labels LabelFault
    refusal = Err TooLong

    reading : List ℕ → Result Labels LabelFault
    reading t = each (item_at i) nothing (text_items t)

-- a text over the limit tells no labels
long-labels : (i : Instance) (text : List ℕ) → 65536 < length text → labels_of i text ≡ Err TooLong
unfolding labels_of
long-labels i text lt = over_limit 65536 refusal reading text lt
  where
    refusal : Result Labels LabelFault
    refusal = Err TooLong

    reading : List ℕ → Result Labels LabelFault
    reading t = each (item_at i) nothing (text_items t)

no-labels : (i : Instance) (text : List ℕ) (d : Labels) → 65536 < length text → labels_of i text ≡ Ok d → ⊥
no-labels i text d lt e = let clash : Ok d ≡ Err TooLong = sym e ∙ long-labels i text lt in cc

pub old-alike : (i : Instance) (text : List ℕ) → old_of i (front_to 1073741824 text) ≡ old_of i text
unfolding old_of
old-alike i text =
    ap (λ (b : Bool). pick b (roster_of i (front_to 1073741824 text)) (proof_of i (front_to 1073741824 text)))
    (report-alike text)
    ∙ ap
    (λ (r : Result (List Shift) RosterFault). pick (is_report text) r (proof_of i (front_to 1073741824 text)))
    (stated-alike i text)
    ∙ ap (λ (p : Result Cert ProofFault). pick (is_report text) (roster_of i text) p) (proof-alike i text)
  where
    pick : Bool → Result (List Shift) RosterFault → Result Cert ProofFault → Result (List Shift) OldFault
    pick b r p = cond b (of_report i r) (of_proof i p)

-- a text over the limit tells no old roster
no-shifts : (i : Instance) (p : Result Cert ProofFault) (shifts : List Shift) → ((c : Cert) → p ≡ Ok c → ⊥)
    → of_proof i p ≡ Ok shifts → ⊥
no-shifts i (Ok c) shifts none e = none c refl
no-shifts i (Err f) shifts none e = cc

no-old : (i : Instance) (text : List ℕ) (shifts : List Shift) → 1073741824 < length text
    → old_of i text ≡ Ok shifts
    → ⊥
unfolding old_of
no-old i text shifts lt e =
    let by_proof : old_of i text ≡ of_proof i (proof_of i text) =
    ap (λ (b : Bool). cond b (of_report i (roster_of i text)) (of_proof i (proof_of i text)))
    (long-report text lt) in
    no-shifts i (proof_of i text) shifts (λ c p. long-proof i text c lt p) (sym by_proof ∙ e)

-- the third text
module _ (i : Instance) (text : List ℕ) where
  read-whole : IsRead i (front_to 1073741824 text) → IsRead i text
  read-whole (report.proof_read c e p) =
      report.proof_read c (sym (report-alike text) ∙ e) (sym (proof-alike i text) ∙ p)
  read-whole (report.report_read shifts e r) =
      report.report_read shifts (sym (report-alike text) ∙ e) (sym (stated-alike i text) ∙ r)

  text-fault-whole : (output : List ℕ) → SaysTextFault i (front_to 1073741824 text) output
      → SaysTextFault i text output
  text-fault-whole output (report.proof_refused e h) =
      report.proof_refused (sym (report-alike text) ∙ e) (proof-fault-whole i text output h)
  text-fault-whole output (report.report_refused e h) =
      report.report_refused (sym (report-alike text) ∙ e)
      (roster-fault-whole 1073741824 enough i text output h)

  pub line-whole : (line : List ℕ) (s : ℕ) (output : List ℕ)
      → LineAnswers i (front_to 1073741824 text) line s output
      → LineAnswers i text line s output
  line-whole line s output (report.line_said o r l) = report.line_said o (read-whole r) l
  line-whole line s output (report.text_refused o f) = report.text_refused o (text-fault-whole o f)

  refused-labels-whole : (labels : List ℕ) (s : ℕ) (output : List ℕ)
      → RefusedLabels labels i (front_to 1073741824 text) s output → RefusedLabels labels i text s output
  refused-labels-whole labels s output a =
      record { line = a.line; fault = a.fault; answers = line-whole a.line s output a.answers }

  refused-old-whole : (old : List ℕ) (s : ℕ) (output : List ℕ)
      → RefusedOld old i (front_to 1073741824 text) s output
      → RefusedOld old i text s output
  refused-old-whole old s output a =
      record { line = a.line; fault = a.fault; answers = line-whole a.line s output a.answers }

-- a text over the limit is refused, whatever shows a roster
pub long-roster : (k n : Kind) (d : Labels) (old : Option (List Shift)) (i : Instance) (text : List ℕ) (s : ℕ)
    (output : List ℕ) → 1073741824 < length (front_to 1073741824 text)
    → RosterAnswers k d old i (front_to 1073741824 text) s output → RosterAnswers n d old i text s output
long-roster k n d old i text s output lt (report.RosterAnswers.by_report t x e a) =
    let clash : true ≡ false = sym e ∙ long-report (front_to 1073741824 text) lt in absurd cc
long-roster k n d old i text s output lt (report.RosterAnswers.by_proof t x e a) = by t x a
  where
    by : (t : ℕ) (x : List ℕ) → asked.ProofAnswers (Judgement k d old) i (front_to 1073741824 text) t x
        → RosterAnswers n d old i text t x
    by t x (asked.ProofAnswers.accepted c u y p j) = absurd (long-proof i (front_to 1073741824 text) c lt p)
    by t x (asked.ProofAnswers.refused y f) =
        report.RosterAnswers.by_proof 5 y (sym (report-alike text) ∙ e)
        (asked.ProofAnswers.refused y (proof-fault-whole i text y f))

long-old : (k n : Kind) (d : Labels) (old : List ℕ) (i : Instance) (text : List ℕ) (s : ℕ) (output : List ℕ)
    → 1073741824 < length (front_to 1073741824 text)
    → OldAnswers k d old i (front_to 1073741824 text) s output
    → OldAnswers n d old i text s output
long-old k n d old i text s output lt (check.OldAnswers.read shifts t x e a) =
    check.OldAnswers.read shifts t x e (long-roster k n d (Some shifts) i text t x lt a)
long-old k n d old i text s output lt (check.OldAnswers.old_refused t x a) =
    check.OldAnswers.old_refused t x (refused-old-whole i text old t x a)

long-beside : (k n : Kind) (d : Labels) (old : Option (List ℕ)) (i : Instance) (text : List ℕ) (s : ℕ)
    (output : List ℕ) → 1073741824 < length (front_to 1073741824 text)
    → BesideAnswers k d old i (front_to 1073741824 text) s output → BesideAnswers n d old i text s output
long-beside k n d None i text s output lt a = long-roster k n d None i text s output lt a
long-beside k n d (Some old) i text s output lt a = long-old k n d old i text s output lt a

long-labelled : (k n : Kind) (labels : List ℕ) (old : Option (List ℕ)) (i : Instance) (text : List ℕ) (s : ℕ)
    (output : List ℕ) → 1073741824 < length (front_to 1073741824 text)
    → LabelAnswers k labels old i (front_to 1073741824 text) s output
    → LabelAnswers n labels old i text s output
long-labelled k n labels old i text s output lt (check.LabelAnswers.answered d t x e a) =
    check.LabelAnswers.answered d t x e (long-beside k n d old i text t x lt a)
long-labelled k n labels old i text s output lt (check.LabelAnswers.labels_refused t x a) =
    check.LabelAnswers.labels_refused t x (refused-labels-whole i text labels t x a)

long-under : (k n : Kind) (labels old : Option (List ℕ)) (i : Instance) (text : List ℕ) (s : ℕ)
    (output : List ℕ)
    → 1073741824 < length (front_to 1073741824 text)
    → UnderAnswers k labels old i (front_to 1073741824 text) s output
    → UnderAnswers n labels old i text s output
long-under k n None old i text s output lt a = long-beside k n nothing old i text s output lt a
long-under k n (Some labels) old i text s output lt a = long-labelled k n labels old i text s output lt a

-- the third text: one over the limit is refused, and else its front is the text, and has its sum
pub request-fronts : (r : Request) (demand : List ℕ) (i : Instance) (text : List ℕ) (s : ℕ) (output : List ℕ)
    → RequestAnswers r demand i (front_to 1073741824 text) s output → RequestAnswers r demand i text s output
request-fronts r demand i text s output a = elim (front-cases 1073741824 text) [
  | inl over ↦
      long-under (kind_by r demand (front_to 1073741824 text)) (kind_by r demand text) r.labels r.old i text
      s output
      over.1 a
  | inr same ↦ subst (λ (t : List ℕ). RequestAnswers r demand i t s output) same a
]

-- the labels text
pub labels-refused-whole : (labels : List ℕ) (i : Instance) (text : List ℕ) (s : ℕ) (output : List ℕ)
    → RefusedLabels (front_to 65536 labels) i text s output → RefusedLabels labels i text s output
labels-refused-whole labels i text s output a = record {
  line = a.line;
  fault = record {
    fault = a.fault.fault;
    reading = sym (labels-alike i labels) ∙ a.fault.reading;
    line = a.fault.line;
  };
  answers = a.answers;
}

-- labels over the limit are refused, whatever shows a roster
pub long-labels-whole : (k n : Kind) (labels : List ℕ) (old : Option (List ℕ)) (i : Instance) (text : List ℕ)
    (s : ℕ)
    (output : List ℕ) → 65536 < length (front_to 65536 labels)
    → LabelAnswers k (front_to 65536 labels) old i text s output → LabelAnswers n labels old i text s output
long-labels-whole k n labels old i text s output lt (check.LabelAnswers.answered d t x e a) =
    absurd (no-labels i (front_to 65536 labels) d lt e)
long-labels-whole k n labels old i text s output lt (check.LabelAnswers.labels_refused t x a) =
    check.LabelAnswers.labels_refused t x (labels-refused-whole labels i text t x a)

-- the old text
old-refused-whole : (old : List ℕ) (i : Instance) (text : List ℕ) (s : ℕ) (output : List ℕ)
    → RefusedOld (front_to 1073741824 old) i text s output → RefusedOld old i text s output
old-refused-whole old i text s output a = record {
  line = a.line;
  fault = record {
    fault = a.fault.fault;
    reading = sym (old-alike i old) ∙ a.fault.reading;
    line = a.fault.line;
  };
  answers = a.answers;
}

long-old-beside : (k n : Kind) (d : Labels) (old : List ℕ) (i : Instance) (text : List ℕ) (s : ℕ)
    (output : List ℕ)
    → 1073741824 < length (front_to 1073741824 old) → OldAnswers k d (front_to 1073741824 old) i text s output
    → OldAnswers n d old i text s output
long-old-beside k n d old i text s output lt (check.OldAnswers.read shifts t x e a) =
    absurd (no-old i (front_to 1073741824 old) shifts lt e)
long-old-beside k n d old i text s output lt (check.OldAnswers.old_refused t x a) =
    check.OldAnswers.old_refused t x (old-refused-whole old i text t x a)

-- an old text over the limit is refused, whatever shows a roster
pub long-old-whole : (k n : Kind) (labels old : List ℕ) (i : Instance) (text : List ℕ) (s : ℕ)
    (output : List ℕ)
    → 1073741824 < length (front_to 1073741824 old)
    → LabelAnswers k labels (Some (front_to 1073741824 old)) i text s output
    → LabelAnswers n labels (Some old) i text s output
long-old-whole k n labels old i text s output lt (check.LabelAnswers.answered d t x e a) =
    check.LabelAnswers.answered d t x e (long-old-beside k n d old i text t x lt a)
long-old-whole k n labels old i text s output lt (check.LabelAnswers.labels_refused t x a) =
    check.LabelAnswers.labels_refused t x a
