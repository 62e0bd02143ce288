use Rattle.tree_pool.proofs.grammar_core.ListsLemmas.{arcs_tell}
use Rattle.tree_pool.proofs.grammar_core.laws.arcs_tell_tree.Goals as goal

pub returns : goal.returns
returns c = arcs_tell
