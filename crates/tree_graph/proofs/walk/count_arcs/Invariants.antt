use Rattle.std.proofs.Common.{◌≤◌}
use Rattle.tree_span_arcs.proofs.OrderLemmas.{keys_left}
use Rattle.tree_span_arcs.specs.Ahead.{HasPassed}
use Rattle.tree_graph.proofs.walk.count_arcs.Given as goal

abbrev pub invariant-loop-next : goal.invariant-loop-next
invariant-loop-next l = record {
  passed : HasPassed l.grammar l.count l.next;
  more : l.passed ≤ l.count;
}

abbrev pub decreases-loop-next : goal.decreases-loop-next
decreases-loop-next l = keys_left l.next
