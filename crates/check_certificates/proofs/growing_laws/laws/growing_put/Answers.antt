use Rattle.check_certificates.proofs.growing_laws.StatesLemmas.{growing-put}
use Rattle.check_certificates.proofs.growing_laws.laws.growing_put.Goals as goal

pub returns : goal.returns
returns c = growing-put
