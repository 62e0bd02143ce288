use Rattle.model_rosters.proofs.word_prices.Costs.{shift-length}
use Rattle.model_rosters.proofs.word_prices.laws.shift_length.Goals as goal

pub returns : goal.returns
returns c = shift-length
