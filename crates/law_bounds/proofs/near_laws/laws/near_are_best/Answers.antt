use Rattle.law_bounds.proofs.near_laws.NearBest.{near_best}
use Rattle.law_bounds.proofs.near_laws.laws.near_are_best.Goals as goal

pub returns : goal.returns
returns c = near_best
