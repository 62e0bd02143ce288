use Rattle.law_bounds.proofs.near_laws.LeastCompleted.{outdone}
use Rattle.law_bounds.proofs.near_laws.laws.completed_costs_least.Goals as goal

pub returns : goal.returns
returns c = λ i cuts ws q own owned solution. outdone i cuts ws q own owned solution
