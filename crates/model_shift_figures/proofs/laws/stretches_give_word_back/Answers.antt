use Rattle.model_shift_figures.proofs.StretchLemmas.{stretches_back}
use Rattle.model_shift_figures.proofs.laws.stretches_give_word_back.Goals as goal

pub returns : goal.returns
returns c = stretches_back
