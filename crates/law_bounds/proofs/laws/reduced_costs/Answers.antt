use Rattle.law_bounds.proofs.ReducedCosts.{reduced-cost}
use Rattle.law_bounds.proofs.laws.reduced_costs.Goals as goal

pub returns : goal.returns
returns c = λ i p cuts t day. reduced-cost i p cuts t day
