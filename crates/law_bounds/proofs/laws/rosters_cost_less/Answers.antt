use Rattle.law_bounds.proofs.RosterCosts.{roster-costs-le}
use Rattle.law_bounds.proofs.laws.rosters_cost_less.Goals as goal

pub returns : goal.returns
returns c = λ i ds amount sound costs. roster-costs-le i sound ds amount costs
