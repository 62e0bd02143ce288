use Rattle.law_bounds.proofs.PricedBounds.{priced-le}
use Rattle.law_bounds.proofs.laws.priced_bound.Goals as goal

pub returns : goal.returns
returns c = λ i p cuts v ts priced some mults busy roster meets. priced-le i p cuts ts mults busy roster meets v some priced
