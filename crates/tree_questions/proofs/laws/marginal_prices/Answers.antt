use Rattle.tree_questions.proofs.PatternLaws.{marginal-prices}
use Rattle.tree_questions.proofs.laws.marginal_prices.Goals as goal

pub returns : goal.returns
returns c = marginal-prices
