use Rattle.search_tree.proofs.TreeLaws.{count-rises}
use Rattle.search_tree.proofs.laws.count_rises.Goals as goal

pub returns : goal.returns
returns c = count-rises
