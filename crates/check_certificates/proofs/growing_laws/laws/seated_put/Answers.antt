use Rattle.check_certificates.proofs.growing_laws.SeatsLemmas.{seated-put}
use Rattle.check_certificates.proofs.growing_laws.laws.seated_put.Goals as goal

pub returns : goal.returns
returns c = seated-put
