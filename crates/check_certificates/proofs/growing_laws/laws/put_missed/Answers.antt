use Rattle.check_certificates.proofs.growing_laws.NodeCounts.{put-missed}
use Rattle.check_certificates.proofs.growing_laws.laws.put_missed.Goals as goal

pub returns : goal.returns
returns c = put-missed
