use Rattle.model_rosters.proofs.word_prices.Costs.{least-tree}
use Rattle.model_rosters.proofs.word_prices.laws.least_tree.Goals as goal

pub returns : goal.returns
returns c = least-tree
