use Rattle.law_bounds.proofs.master_laws.Ends.{weights_apart}
use Rattle.law_bounds.proofs.master_laws.laws.weights_apart.Goals as goal

pub returns : goal.returns
returns c = weights_apart
