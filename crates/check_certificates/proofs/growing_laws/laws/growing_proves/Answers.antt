use Rattle.check_certificates.proofs.growing_laws.StatesLemmas.{growing-proves}
use Rattle.check_certificates.proofs.growing_laws.laws.growing_proves.Goals as goal

pub returns : goal.returns
returns c = growing-proves
