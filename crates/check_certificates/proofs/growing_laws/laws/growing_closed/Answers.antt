use Rattle.check_certificates.proofs.growing_laws.StatesLemmas.{growing-closed}
use Rattle.check_certificates.proofs.growing_laws.laws.growing_closed.Goals as goal

pub returns : goal.returns
returns c = growing-closed
