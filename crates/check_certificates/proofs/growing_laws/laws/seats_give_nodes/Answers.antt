use Rattle.check_certificates.proofs.growing_laws.SeatsLemmas.{give-nodes}
use Rattle.check_certificates.proofs.growing_laws.laws.seats_give_nodes.Goals as goal

pub returns : goal.returns
returns c = give-nodes
