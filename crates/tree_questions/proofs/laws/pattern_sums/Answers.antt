use Rattle.tree_questions.proofs.PatternLaws.{pattern-sums}
use Rattle.tree_questions.proofs.laws.pattern_sums.Goals as goal

pub returns : goal.returns
returns c = pattern-sums
