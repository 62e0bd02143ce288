use Rattle.model_rosters.specs.Trees.{On}
use Rattle.model_rosters.specs.Sums.{parts_sum}
use Rattle.model_rosters.proofs.tree_laws.LeastValues.{IsLeast-one}
use Rattle.model_rosters.proofs.tree_laws.laws.one_least_parts.Goals as goal

pub returns : goal.returns
returns c = λ g p r k ss i l v w h o. IsLeast-one (On g ss i l) (parts_sum p r k i) v w h o
