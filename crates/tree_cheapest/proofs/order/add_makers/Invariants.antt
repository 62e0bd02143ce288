use Rattle.tree_cheapest.specs.Orders.{AreAdded}
use Rattle.tree_cheapest.proofs.order.add_makers.Given as goal

abbrev pub invariant-loop-index : goal.invariant-loop-index
invariant-loop-index l = AreAdded l.graph l.links l.arcs l.initial.makers l.makers l.index
