use Rattle.tree_span_arcs.specs.Order.{IsSought}
use Rattle.tree_span_arcs.proofs.OrderLemmas.{keys_left}
use Rattle.tree_span_arcs.proofs.arcs.next_arc.Given as goal

abbrev pub invariant-loop-next : goal.invariant-loop-next
invariant-loop-next l = IsSought l.grammar l.fn.after l.next

abbrev pub decreases-loop-next : goal.decreases-loop-next
decreases-loop-next l = keys_left l.next
