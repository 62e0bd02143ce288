use Rattle.law_bounds.proofs.WorkedBest.{worked-best}
use Rattle.law_bounds.proofs.laws.worked_best.Goals as goal

pub returns : goal.returns
returns c = worked-best
