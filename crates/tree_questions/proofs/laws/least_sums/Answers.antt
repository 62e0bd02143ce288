use Rattle.tree_questions.proofs.PatternLaws.{least-sums}
use Rattle.tree_questions.proofs.laws.least_sums.Goals as goal

pub returns : goal.returns
returns c = least-sums
