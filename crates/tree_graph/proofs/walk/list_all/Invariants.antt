use Rattle.std.proofs.Common.{◌≤◌, length}
use Rattle.tree_span_arcs.proofs.OrderLemmas.{keys_left}
use Rattle.tree_span_arcs.specs.Ahead.{IsPassed}
use Rattle.tree_graph.proofs.walk.list_all.Given as goal

abbrev pub invariant-loop-next : goal.invariant-loop-next
invariant-loop-next l = record {
  passed : IsPassed l.grammar l.arcs l.next;
  few : length l.arcs ≤ 100000;
}

abbrev pub decreases-loop-next : goal.decreases-loop-next
decreases-loop-next l = keys_left l.next
