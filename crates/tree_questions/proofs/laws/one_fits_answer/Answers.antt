use Rattle.tree_questions.proofs.OnceLemmas.{one-fits}
use Rattle.tree_questions.proofs.laws.one_fits_answer.Goals as goal

pub returns : goal.returns
returns c = one-fits
