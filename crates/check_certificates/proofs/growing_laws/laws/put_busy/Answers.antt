use Rattle.check_certificates.proofs.growing_laws.NodeCounts.{put-busy}
use Rattle.check_certificates.proofs.growing_laws.laws.put_busy.Goals as goal

pub returns : goal.returns
returns c = put-busy
