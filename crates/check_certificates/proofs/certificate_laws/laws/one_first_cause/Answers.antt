use Rattle.check_certificates.proofs.certificate_laws.OneCause.{one-first}
use Rattle.check_certificates.proofs.certificate_laws.laws.one_first_cause.Goals as goal

pub returns : goal.returns
returns c = λ i cert v w h k. one-first i cert v w h k
