use Rattle.search_arc_weights.specs.Loops.{AreAddedBefore}
use Rattle.search_arc_weights.proofs.sums.add_arcs.Given as goal

abbrev pub invariant-loop-arc : goal.invariant-loop-arc
invariant-loop-arc l = AreAddedBefore l.graph.arcs l.units l.arcs l.fn.sums l.arc-index l.sums
