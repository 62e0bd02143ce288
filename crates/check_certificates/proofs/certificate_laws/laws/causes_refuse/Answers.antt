use Rattle.check_certificates.proofs.certificate_laws.NoCause.{refused}
use Rattle.check_certificates.proofs.certificate_laws.laws.causes_refuse.Goals as goal

pub returns : goal.returns
returns c = λ i cert why cause yes. refused i cert yes why cause
