use Rattle.check_certificates.proofs.growing_laws.StatesLemmas.{growing-raised}
use Rattle.check_certificates.proofs.growing_laws.laws.growing_raised.Goals as goal

pub returns : goal.returns
returns c = growing-raised
