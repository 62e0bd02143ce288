use Rattle.search_days.proofs.day_curve.MoreHeads.{costs-more}
use Rattle.search_days.proofs.day_curve.laws.allowed_with_more.Goals as goal

pub returns : goal.returns
returns c = λ i staff few more ds amount of less h. costs-more i staff few more of less ds amount h
