use Rattle.law_bounds.proofs.near_laws.NearCounts.{near_counts}
use Rattle.law_bounds.proofs.near_laws.laws.near_counts_close.Goals as goal

pub returns : goal.returns
returns c = near_counts
