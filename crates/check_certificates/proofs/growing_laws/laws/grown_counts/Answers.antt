use Rattle.check_certificates.proofs.growing_laws.NodeCounts.{grown-counts}
use Rattle.check_certificates.proofs.growing_laws.laws.grown_counts.Goals as goal

pub returns : goal.returns
returns c = grown-counts
