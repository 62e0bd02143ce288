use Rattle.std.proofs.Common.{drop}
use Rattle.search_masters.specs.Listed.{AscendFrom}
use Rattle.search_masters.proofs.listed.ascend.Given as goal

abbrev pub invariant-loop-tree : goal.invariant-loop-tree
invariant-loop-tree l = AscendFrom l.next (drop l.tree-index l.listed) → AscendFrom 0 l.listed
