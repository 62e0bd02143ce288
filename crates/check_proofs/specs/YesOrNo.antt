-- When a verdict is a yes.
use Rattle.std.specs.Prelude.{◌↔◌}
use Rattle.model_rosters.specs.declared.instance.Instance.{Instance}
use Rattle.check_certificates.specs.declared.cert.Cert.{Cert}
use Rattle.check_certificates.specs.declared.verdict.Verdict.{Verdict}
use Rattle.check_certificates.specs.declared.verdict.Verdict.TheVariants.{Yes, No}
use Rattle.check_certificates.specs.certificate_laws.Accepted.{Accepts}
use Rattle.check_proofs.specs.Verdicts.{IsVerdict}

abbrev pub IsYes : Verdict → Type 0
IsYes (Yes cost bound) = Unit {0}
IsYes (No why) = ⊥

-- a verdict is a yes if and only if the certificate is accepted
abbrev pub YesIsAccepted : Type 0
YesIsAccepted = (i : Instance) (c : Cert) (v : Verdict) → IsVerdict i c v → IsYes v ↔ Accepts i c
