use Rattle.check_certificates.proofs.growing_laws.GrownLemmas.{put-rises}
use Rattle.check_certificates.proofs.growing_laws.laws.put_rises.Goals as goal

pub returns : goal.returns
returns c = put-rises
