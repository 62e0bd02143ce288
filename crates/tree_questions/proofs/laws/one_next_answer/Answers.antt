use Rattle.tree_questions.proofs.OnceLemmas.{one-next}
use Rattle.tree_questions.proofs.laws.one_next_answer.Goals as goal

pub returns : goal.returns
returns c = one-next
