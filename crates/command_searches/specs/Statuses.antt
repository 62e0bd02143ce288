-- No answer for an old certificate has the status of a refusal.
use Rattle.std.proofs.Common.{◌≡◌, ◌≢◌, ℕ, List, arith}
use Rattle.model_rosters.specs.declared.instance.Instance.{Instance}
use Rattle.check_certificates.specs.declared.cert.Cert.{Cert}
use Rattle.check_reuse.specs.declared.nodes.Reused.{Reused}
use Rattle.check_reuse.specs.declared.nodes.Reused.TheVariants.{Bound, Refused}
use Rattle.command_searches.specs.Reuse.{Reusing, reused_status}
use Rattle.command_answers.specs.Statuses.{ends_at}

reused_at : (s : ℕ) (r : Reused) → s ≡ reused_status r → (s ≢ 6) × (s ≢ 7)
reused_at s (Bound bound) e = ends_at s 0 e (omega arith)
reused_at s (Refused why) e = ends_at s 1 e (omega arith)

pub reused-ends : (i : Instance) (c : Cert) (s : ℕ) (output : List ℕ) → Reusing i c s output → (s ≢ 6)
    × (s ≢ 7)
reused-ends i c s output h = reused_at s h.reused h.status_is
