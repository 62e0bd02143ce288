use Rattle.std.specs.Prelude.{slice_get}
use Rattle.tree_short_order.specs.Walks.{node_left, arc_left, slot_left}
use Rattle.tree_short_order.proofs.walk.+walk.Given as goal

abbrev pub decreases-write_node : goal.decreases-write_node
decreases-write_node l = node_left (slice_get l.best.now l.node)

abbrev pub decreases-write_slot : goal.decreases-write_slot
decreases-write_slot l = slot_left (slice_get l.best.now l.node)

abbrev pub decreases-write_under : goal.decreases-write_under
decreases-write_under l = arc_left l.arc
