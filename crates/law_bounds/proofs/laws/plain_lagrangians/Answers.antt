use Rattle.law_bounds.proofs.PlainValues.{value-plain, plain-value}
use Rattle.law_bounds.proofs.laws.plain_lagrangians.Goals as goal

pub returns : goal.returns
returns c = λ i p cuts v sound day. (λ h. value-plain i p cuts sound day v h, λ h. plain-value i p cuts sound day v h)
