use Rattle.model_shift_figures.proofs.RunLawLemmas.{give_all_back}
use Rattle.model_shift_figures.proofs.laws.runs_give_periods_back.Goals as goal

pub returns : goal.returns
returns c = give_all_back
