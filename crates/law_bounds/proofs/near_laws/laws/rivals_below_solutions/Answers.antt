use Rattle.law_bounds.proofs.near_laws.NearBest.{rivals_below}
use Rattle.law_bounds.proofs.near_laws.laws.rivals_below_solutions.Goals as goal

pub returns : goal.returns
returns c = rivals_below
