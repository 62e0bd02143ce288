use Rattle.std.specs.Prelude.{◌↔◌}
use Rattle.model_rosters.specs.declared.instance.Instance.{Instance}
use Rattle.check_certificates.specs.declared.cert.Cert.{Cert}
use Rattle.check_certificates.specs.declared.verdict.Verdict.{Verdict}
use Rattle.check_certificates.specs.declared.verdict.Verdict.TheVariants.{Yes, No}
use Rattle.check_certificates.specs.certificate_laws.Accepted.{Accepts}
use Rattle.check_certificates.proofs.certificate_laws.NoCause.{refused}
use Rattle.check_proofs.specs.Verdicts.{IsVerdict}
use Rattle.check_proofs.specs.YesOrNo.{IsYes}
use Rattle.check_proofs.proofs.laws.yes_is_accepted.Goals as goal

told : (i : Instance) (c : Cert) (v : Verdict) → IsVerdict i c v → IsYes v ↔ Accepts i c
told i c (Yes cost bound) h = (λ y. h.0, λ a. tt)
told i c (No why) h = (λ y. absurd y, λ a. absurd (refused i c a why h.holds))

pub returns : goal.returns
returns c = λ i cert v h. told i cert v h
