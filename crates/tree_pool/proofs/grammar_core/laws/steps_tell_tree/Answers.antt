use Rattle.tree_pool.proofs.grammar_core.ListsLemmas.{steps_tell}
use Rattle.tree_pool.proofs.grammar_core.laws.steps_tell_tree.Goals as goal

pub returns : goal.returns
returns c = steps_tell
