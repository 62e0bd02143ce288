-- No answer to a text has the status of a refusal of the shelf.
use Rattle.std.proofs.Common.{◌≡◌, ◌≢◌, ℕ, ◌<◌, List, arith, refl}
use Rattle.model_rosters.specs.declared.instance.Instance.{Instance}
use Rattle.check_certificates.specs.declared.cert.Cert.{Cert}
use Rattle.command_answers.specs.Asked.{CertAnswers, ProofAnswers}
use Rattle.command_answers.specs.Asked as asked

pub ends_at : (s n : ℕ) → s ≡ n → n < 6 → (s ≢ 6) × (s ≢ 7)
ends_at s n e few = ((λ f. omega (arith, e, f, few)), (λ f. omega (arith, e, f, few)))

-- where no answer to a certificate has the status of a refusal of the shelf, none to its text has
pub proof-ends : (A : CertAnswers) → ((i : Instance) (c : Cert) (s : ℕ) (output : List ℕ) → A i c s output
    → (s ≢ 6) × (s ≢ 7)) → (i : Instance) (text : List ℕ) (s : ℕ) (output : List ℕ)
    → ProofAnswers A i text s output → (s ≢ 6) × (s ≢ 7)
proof-ends A each i text s output (asked.ProofAnswers.accepted c t x e a) = each i c s output a
proof-ends A each i text s output (asked.ProofAnswers.refused x h) = ends_at s 5 refl (omega arith)
