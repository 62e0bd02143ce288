use Rattle.law_bounds.proofs.master_laws.Pricing.{trees_priced}
use Rattle.law_bounds.proofs.master_laws.laws.trees_priced.Goals as goal

pub returns : goal.returns
returns c = trees_priced
