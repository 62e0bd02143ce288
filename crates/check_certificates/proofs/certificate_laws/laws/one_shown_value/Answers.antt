use Rattle.check_certificates.proofs.certificate_laws.OneProof.{one-shown}
use Rattle.check_certificates.proofs.certificate_laws.laws.one_shown_value.Goals as goal

pub returns : goal.returns
returns c = λ i cuts t v w h k. one-shown i cuts t v w h k
