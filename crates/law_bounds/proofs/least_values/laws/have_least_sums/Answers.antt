use Rattle.model_rosters.specs.Sums.{tree_sum}
use Rattle.law_bounds.proofs.least_values.LeastTrees.{trees-least}
use Rattle.law_bounds.proofs.least_values.laws.have_least_sums.Goals as goal

pub returns : goal.returns
returns c = λ g p x sound. trees-least g sound x (tree_sum p 1)
