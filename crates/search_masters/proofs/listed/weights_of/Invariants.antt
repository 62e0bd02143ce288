use Rattle.std.proofs.Common.{take}
use Rattle.search_masters.specs.Listed.{AreSharesOf}
use Rattle.search_masters.proofs.listed.weights_of.Given as goal

abbrev pub invariant-loop-tree : goal.invariant-loop-tree
invariant-loop-tree l = AreSharesOf (take l.tree-index l.listed) l.weights
