use Rattle.text_relaxed_days.proofs.RelaxedCosts.{relaxed-tells}
use Rattle.text_relaxed_days.proofs.laws.relaxed_days_tell.Goals as goal

pub returns : goal.returns
returns c = relaxed-tells c.have_least_sums.ensures
