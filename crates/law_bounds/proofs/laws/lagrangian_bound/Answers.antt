use Rattle.law_bounds.proofs.Relaxation.{lagrangian_sum-le}
use Rattle.law_bounds.proofs.laws.lagrangian_bound.Goals as goal

pub returns : goal.returns
returns c = λ i p cuts z ts least mults roster meets. lagrangian_sum-le i p cuts z ts least roster meets mults
