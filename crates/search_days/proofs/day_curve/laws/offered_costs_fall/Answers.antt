use Rattle.search_days.proofs.day_curve.MoreHeads.{offered-falls}
use Rattle.search_days.proofs.day_curve.laws.offered_costs_fall.Goals as goal

pub returns : goal.returns
returns c = λ i staff few more cert cost of less right falls. offered-falls i staff few more of less cert cost right falls
