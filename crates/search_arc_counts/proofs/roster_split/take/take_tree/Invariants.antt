use Rattle.search_arc_counts.specs.roster_split.Taking.{AsksTree, IsTaking, total}
use Rattle.search_arc_counts.proofs.roster_split.take.take_tree.Given as goal

abbrev pub invariant-loop-node : goal.invariant-loop-node
invariant-loop-node l = (asked : AsksTree l.graph l.fn.left l.root) → IsTaking asked.g l.graph asked.pending l.fn.left l.left l.stack.items l.steps

abbrev pub decreases-loop-node : goal.decreases-loop-node
decreases-loop-node l = total l.left
