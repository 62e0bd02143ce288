use Rattle.law_bounds.proofs.master_laws.BestPrices.{are_best}
use Rattle.law_bounds.proofs.master_laws.laws.rounded_are_best.Goals as goal

pub returns : goal.returns
returns c = are_best
