use Rattle.std.proofs.Common.{◌≡◌, length}
use Rattle.tree_cheapest.specs.Extras.{AreFreeBut}
use Rattle.tree_cheapest.proofs.extras.Extras.take_back.Given as goal

abbrev pub invariant-loop-number : goal.invariant-loop-number
invariant-loop-number g l = record {
  count : length l.self.prices.items ≡ length l.initial.self.prices.items;
  places : l.self.places.items ≡ l.initial.self.places.items;
  free : AreFreeBut l.self.places.items l.number l.entries l.self.prices.items;
}
