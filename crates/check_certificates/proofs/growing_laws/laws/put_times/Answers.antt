use Rattle.check_certificates.proofs.growing_laws.NodeCounts.{put-times}
use Rattle.check_certificates.proofs.growing_laws.laws.put_times.Goals as goal

pub returns : goal.returns
returns c = put-times
