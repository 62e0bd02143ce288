use Rattle.search_tree.proofs.TreeLaws.{leaf-in-hand}
use Rattle.search_tree.proofs.laws.leaf_in_hand.Goals as goal

pub returns : goal.returns
returns c = leaf-in-hand
