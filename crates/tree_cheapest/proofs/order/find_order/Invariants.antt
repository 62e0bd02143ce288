use Rattle.std.proofs.Common.{List, length}
use Rattle.tree_cheapest.specs.declared.slots.Spot.{Spot}
use Rattle.tree_cheapest.specs.Links.{AreLinks}
use Rattle.tree_cheapest.specs.Orders.{IsOrderBefore}
use Rattle.tree_cheapest.proofs.order.find_order.Given as goal

abbrev pub invariant-loop-place : goal.invariant-loop-place
invariant-loop-place l = (letters : List Spot) → AreLinks l.graph letters l.links (length l.graph.arcs) → IsOrderBefore l.graph letters l.place l.order
