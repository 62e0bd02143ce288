use Rattle.std.proofs.Common.{[], ◌∷◌}
use Rattle.model_rosters.specs.Trees.{On}
use Rattle.model_rosters.specs.Sums.{tree_sum}
use Rattle.model_rosters.proofs.tree_laws.LeastValues.{IsLeast-one}
use Rattle.model_rosters.proofs.tree_laws.laws.one_least_tree.Goals as goal

pub returns : goal.returns
returns c = λ g p s i l v w h k. IsLeast-one (On g (s ∷ []) i l) (tree_sum p i) v w h k
