use Rattle.check_certificates.proofs.growing_laws.SeatsLemmas.{put-numbers}
use Rattle.check_certificates.proofs.growing_laws.laws.put_numbers.Goals as goal

pub returns : goal.returns
returns c = put-numbers
