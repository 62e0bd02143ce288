use Rattle.law_bounds.proofs.BaseCuts.{base-open}
use Rattle.law_bounds.proofs.laws.base_cuts_leave_counts.Goals as goal

pub returns : goal.returns
returns c = λ i a sound. base-open i a sound
