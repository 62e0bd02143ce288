use Rattle.check_certificates.proofs.growing_laws.OpensLemmas.{opens-least}
use Rattle.check_certificates.proofs.growing_laws.laws.opens_least.Goals as goal

pub returns : goal.returns
returns c = opens-least
