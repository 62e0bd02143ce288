use Rattle.search_branch_price.specs.Plans.{AreFirst}
use Rattle.search_branch_price.proofs.counts.least_counts.Given as goal

abbrev pub invariant-loop-arc : goal.invariant-loop-arc
invariant-loop-arc l = AreFirst l.arc_box l.arc l.counts.items
