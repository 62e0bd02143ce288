use Rattle.text_relaxed_days.proofs.FreeTrees.{has-price}
use Rattle.text_relaxed_days.proofs.laws.shifts_have_prices.Goals as goal

pub returns : goal.returns
returns c = has-price c.have_least_sums.ensures
