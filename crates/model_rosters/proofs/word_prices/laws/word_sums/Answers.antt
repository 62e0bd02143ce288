use Rattle.model_rosters.proofs.word_prices.Costs.{word-sums}
use Rattle.model_rosters.proofs.word_prices.laws.word_sums.Goals as goal

pub returns : goal.returns
returns c = word-sums
