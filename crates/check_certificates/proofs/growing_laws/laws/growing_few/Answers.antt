use Rattle.check_certificates.proofs.growing_laws.StatesLemmas.{growing-few}
use Rattle.check_certificates.proofs.growing_laws.laws.growing_few.Goals as goal

pub returns : goal.returns
returns c = growing-few
