use Rattle.law_bounds.proofs.near_laws.NearTrees.{near_trees}
use Rattle.law_bounds.proofs.near_laws.laws.near_trees_show_best.Goals as goal

pub returns : goal.returns
returns c = near_trees
