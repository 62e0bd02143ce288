use Rattle.search_arc_weights.specs.Loops.{AreSummedBefore}
use Rattle.search_arc_weights.proofs.sums.arc_sums.Given as goal

abbrev pub invariant-loop-weight : goal.invariant-loop-weight
invariant-loop-weight l = AreSummedBefore l.d l.graph.arcs l.pool l.weights l.weight-index l.sums.items
