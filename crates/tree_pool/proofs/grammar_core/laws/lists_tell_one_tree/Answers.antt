use Rattle.tree_pool.proofs.grammar_core.ListsLemmas.{one_tree}
use Rattle.tree_pool.proofs.grammar_core.laws.lists_tell_one_tree.Goals as goal

pub returns : goal.returns
returns c = one_tree
