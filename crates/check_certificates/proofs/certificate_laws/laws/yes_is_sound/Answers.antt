use Rattle.check_certificates.proofs.certificate_laws.RightLemmas.{yes-is-sound}
use Rattle.check_certificates.proofs.certificate_laws.laws.yes_is_sound.Goals as goal

pub returns : goal.returns
returns c = λ i cert sound fit yes. yes-is-sound i sound cert fit yes
