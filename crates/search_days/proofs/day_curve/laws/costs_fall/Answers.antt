use Rattle.search_days.proofs.day_curve.MoreHeads.{costs-fall}
use Rattle.search_days.proofs.day_curve.laws.costs_fall.Goals as goal

pub returns : goal.returns
returns c = λ i staff few more c d of less low high closed. costs-fall i staff few more of less c d low high closed
