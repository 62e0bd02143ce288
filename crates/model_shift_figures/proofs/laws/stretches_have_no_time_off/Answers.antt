use Rattle.model_shift_figures.proofs.StretchLemmas.{stretches_on}
use Rattle.model_shift_figures.proofs.laws.stretches_have_no_time_off.Goals as goal

pub returns : goal.returns
returns c = stretches_on
