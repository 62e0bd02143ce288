-- The laws of this crate.
use Rattle.std.specs.Prelude.{◌≡◌}
use Rattle.model_rosters.specs.declared.instance.Instance.{Instance}
use Rattle.check_certificates.specs.declared.cert.Cert.{Cert}
use Rattle.check_reuse.specs.declared.nodes.Reused.{Reused}
use Rattle.check_reuse.specs.Reuse.{IsReuse}

-- an old certificate has one answer on a day
abbrev pub OneReuse : Type 0
OneReuse = (i : Instance) (c : Cert) (a b : Reused) → IsReuse i c a → IsReuse i c b → a ≡ b
