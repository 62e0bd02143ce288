use Rattle.check_certificates.proofs.growing_laws.BoxesLemmas.{few-nodes}
use Rattle.check_certificates.proofs.growing_laws.laws.few_nodes.Goals as goal

pub returns : goal.returns
returns c = few-nodes
