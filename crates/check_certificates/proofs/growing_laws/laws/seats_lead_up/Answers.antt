use Rattle.check_certificates.proofs.growing_laws.SeatsLemmas.{leads-up}
use Rattle.check_certificates.proofs.growing_laws.laws.seats_lead_up.Goals as goal

pub returns : goal.returns
returns c = leads-up
