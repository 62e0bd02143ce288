use Rattle.search_arc_counts.specs.roster_split.Evens.{HasCounts, AreEven}
use Rattle.search_arc_counts.proofs.roster_split.balance.check_balance.Given as goal

abbrev pub invariant-loop-node : goal.invariant-loop-node
invariant-loop-node l = (asked : HasCounts l.graph l.counts) → AreEven asked.g l.graph l.counts l.node
