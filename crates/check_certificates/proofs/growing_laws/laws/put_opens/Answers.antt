use Rattle.check_certificates.proofs.growing_laws.OpensLemmas.{put-opens}
use Rattle.check_certificates.proofs.growing_laws.laws.put_opens.Goals as goal

pub returns : goal.returns
returns c = put-opens
