use Rattle.search_tree.proofs.TreeLaws.{limit-falls}
use Rattle.search_tree.proofs.laws.limit_falls.Goals as goal

pub returns : goal.returns
returns c = limit-falls
