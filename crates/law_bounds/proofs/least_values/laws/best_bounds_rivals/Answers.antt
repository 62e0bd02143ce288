use Rattle.law_bounds.proofs.least_values.Values.{bounds-rivals}
use Rattle.law_bounds.proofs.least_values.laws.best_bounds_rivals.Goals as goal

pub returns : goal.returns
returns c = λ i p cuts t sound best tree rival competes. bounds-rivals i p cuts t sound best tree rival competes
