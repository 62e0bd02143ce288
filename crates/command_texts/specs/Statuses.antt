-- No verdict has the status of a refusal of the shelf.
use Rattle.std.proofs.Common.{◌≢◌, ℕ, List, arith, refl}
use Rattle.model_rosters.specs.declared.instance.Instance.{Instance}
use Rattle.check_certificates.specs.declared.cert.Cert.{Cert}
use Rattle.command_texts.specs.Check.{Judgement, yes, no}
use Rattle.command_answers.specs.Statuses.{ends_at}

pub judged-ends : (i : Instance) (c : Cert) (s : ℕ) (output : List ℕ) → Judgement i c s output → (s ≢ 6)
    × (s ≢ 7)
judged-ends i c s output (yes x h) = ends_at s 0 refl (omega arith)
judged-ends i c s output (no x h) = ends_at s 1 refl (omega arith)
