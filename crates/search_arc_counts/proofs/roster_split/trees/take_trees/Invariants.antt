use Rattle.std.proofs.Common.{◌-◌}
use Rattle.search_arc_counts.specs.roster_split.Splits.{HasBalance, IsSplitting}
use Rattle.search_arc_counts.proofs.roster_split.trees.take_trees.Given as goal

abbrev pub invariant-loop : goal.invariant-loop
invariant-loop l = (asked : HasBalance l.graph l.counts) → IsSplitting asked.g l.graph l.counts l.left.items l.trees l.number (l.number - l.counter)
