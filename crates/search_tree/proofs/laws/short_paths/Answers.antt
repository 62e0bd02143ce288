use Rattle.search_tree.proofs.TreeLaws.{short-paths}
use Rattle.search_tree.proofs.laws.short_paths.Goals as goal

pub returns : goal.returns
returns c = short-paths
