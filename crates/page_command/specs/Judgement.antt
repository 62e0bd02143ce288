-- What is answered to a certificate and to a stated roster: what shows the roster, or why it is refused.
use Rattle.std.specs.Prelude.{ℕ, Option, List}
use Rattle.model_rosters.specs.declared.instance.Instance.{Instance}
use Rattle.model_rosters.specs.declared.instance.Shift.{Shift}
use Rattle.model_rosters.specs.Rosters.{Costs}
use Rattle.check_certificates.specs.declared.cert.Cert.{Cert}
use Rattle.check_certificates.specs.RosterCauses.{duties}
use Rattle.check_certificates.specs.certificate_laws.Accepted.{Accepts}
use Rattle.check_certificates.specs.certificate_laws.Right.{YesIsRight}
use Rattle.page_labels.specs.declared.labels.Labels.{Labels}
use Rattle.check_values.specs.declared.valued.Valued.{Valued}
use Rattle.check_values.specs.Answers.{SaysCauses}
use Rattle.check_values.specs.Values.{IsValued}
use Rattle.command_texts.specs.Check.{SaysNo}
use Rattle.page_views.specs.Shown.{Showing, certified, stated}
use Rattle.page_views.specs.declared.kind.Kind.{Kind}

-- the certificate is accepted, what it states is true, and its roster is shown under labels, beside an old
-- one where there is one, or a line is said in its place
pub record SaysShown (k : Kind) (d : Labels) (old : Option (List Shift)) (i : Instance) (c : Cert)
    (status : ℕ)
    (output : List ℕ) : Type 0 where
  pub accepted : Accepts i c
  pub trusted : YesIsRight i c
  pub shown : Showing k d i (certified c) old status output

-- the answers for a certificate
pub data Judgement (k : Kind) (d : Labels) (old : Option (List Shift)) (i : Instance) (c : Cert) :
    ℕ → List ℕ → Type 0 where
  yes : (status : ℕ) (output : List ℕ) → SaysShown k d old i c status output
      → Judgement k d old i c status output
  no : (output : List ℕ) → SaysNo i c output → Judgement k d old i c 1 output

-- the stated roster is allowed, and it is shown at its prices, of which no bound is proved, or a line is said
-- in its place
pub record SaysValued (k : Kind) (d : Labels) (old : Option (List Shift)) (i : Instance) (shifts : List Shift)
    (status : ℕ) (output : List ℕ) : Type 0 where
  pub value : Valued
  pub is : IsValued i shifts value
  pub costs : Costs i (duties shifts) value.cost
  pub shown : Showing k d i (stated value) old status output

-- the answers for a stated roster; where it is not allowed, those of `value`
pub data StatedJudgement (k : Kind) (d : Labels) (old : Option (List Shift)) (i : Instance)
    (shifts : List Shift) :
    ℕ → List ℕ → Type 0 where
  allowed : (status : ℕ) (output : List ℕ) → SaysValued k d old i shifts status output
      → StatedJudgement k d old i shifts status output
  not_allowed : (output : List ℕ) → SaysCauses i shifts output → StatedJudgement k d old i shifts 1 output
