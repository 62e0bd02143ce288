use Rattle.std.proofs.Common.{◌≡◌, length}
use Rattle.tree_cheapest.specs.Extras.{AreWithin, AreFreeBut}
use Rattle.tree_cheapest.proofs.ExtrasLemmas.{AreAddedTo}
use Rattle.tree_cheapest.proofs.extras.Extras.add_all.Given as goal

abbrev pub invariant-loop-number : goal.invariant-loop-number
invariant-loop-number g l = record {
  added : AreAddedTo l.graph.arcs l.entries l.number l.self.prices.items;
  count : length l.self.prices.items ≡ length l.graph.arcs;
  places : length l.self.places.items ≡ length l.initial.self.places.items;
  small : AreWithin g.N.Number.limits.price l.self.prices.items;
  free : AreFreeBut l.self.places.items 0 l.number l.self.prices.items;
}
