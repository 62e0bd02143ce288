-- What `check RULES DEMAND PROOF` answers.
use Rattle.std.specs.Prelude.{ℕ, ◌≡◌, List}
use Rattle.model_rosters.specs.declared.instance.Instance.{Instance}
use Rattle.check_certificates.specs.declared.cert.Cert.{Cert}
use Rattle.check_certificates.specs.declared.verdict.Verdict.{Verdict}
use Rattle.check_certificates.specs.declared.verdict.Verdict.TheVariants.{Yes, No}
use Rattle.check_certificates.specs.declared.why.Why.{Why}
use Rattle.check_certificates.specs.certificate_laws.Accepted.{Accepts}
use Rattle.check_certificates.specs.certificate_laws.Causes.{IsFirstCause}
use Rattle.check_certificates.specs.certificate_laws.Right.{YesIsRight}
use Rattle.text_answers.specs.VerdictText.{verdict_text}

-- 0 for a yes, and 1 for a no
abbrev pub verdict_status : Verdict → ℕ
verdict_status (Yes cost bound) = 0
verdict_status (No why) = 1

-- status 0: the certificate is accepted, and what it states is true
pub record SaysYes (i : Instance) (c : Cert) (output : List ℕ) : Type 0 where
  pub accepted : Accepts i c
  pub trusted : YesIsRight i c
  pub lines : output ≡ verdict_text (Yes c.cost c.bound)

-- status 1: the certificate is refused, for the cause of least number
pub record SaysNo (i : Instance) (c : Cert) (output : List ℕ) : Type 0 where
  pub why : Why
  pub cause : IsFirstCause i c why
  pub line : output ≡ verdict_text (No why)

-- the answers for a certificate
pub data Judgement (i : Instance) (c : Cert) : ℕ → List ℕ → Type 0 where
  yes : (output : List ℕ) → SaysYes i c output → Judgement i c 0 output
  no : (output : List ℕ) → SaysNo i c output → Judgement i c 1 output
