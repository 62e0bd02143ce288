use Rattle.model_rosters.proofs.tree_laws.Bounds.{sum-small}
use Rattle.model_rosters.proofs.tree_laws.laws.small_sums.Goals as goal

pub returns : goal.returns
returns c = λ g p r k ss i l t z sound all most h e. sum-small g sound p all r k i l ss t z most h e
