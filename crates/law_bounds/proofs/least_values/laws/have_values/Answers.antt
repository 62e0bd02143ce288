use Rattle.law_bounds.proofs.least_values.Values.{has-value}
use Rattle.law_bounds.proofs.least_values.laws.have_values.Goals as goal

pub returns : goal.returns
returns c = λ i p cuts sound. has-value i p cuts sound
