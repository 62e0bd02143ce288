use Rattle.std.proofs.Common.{◌≡◌, length}
use Rattle.search_strong_branching.proofs.sums.sums_of.Given as goal

abbrev pub invariant-loop-number : goal.invariant-loop-number
invariant-loop-number l = length l.sums.items ≡ length l.graph.arcs
