use Rattle.std.proofs.Common.{◌-◌}
use Rattle.tree_graph.proofs.InOrderLemmas.{IsSearched}
use Rattle.tree_graph.proofs.search.search.Given as goal

abbrev pub invariant-loop-low : goal.invariant-loop-low
invariant-loop-low l = IsSearched l.arcs l.places l.arc l.low l.high

abbrev pub decreases-loop-low : goal.decreases-loop-low
decreases-loop-low l = l.high - l.low
