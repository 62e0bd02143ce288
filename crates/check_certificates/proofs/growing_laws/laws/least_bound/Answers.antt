use Rattle.check_certificates.proofs.growing_laws.GrownLemmas.{least-bound}
use Rattle.check_certificates.proofs.growing_laws.laws.least_bound.Goals as goal

pub returns : goal.returns
returns c = least-bound
