use Rattle.tree_questions.proofs.OnceLemmas.{one-ranked}
use Rattle.tree_questions.proofs.laws.one_ranked_answer.Goals as goal

pub returns : goal.returns
returns c = one-ranked
