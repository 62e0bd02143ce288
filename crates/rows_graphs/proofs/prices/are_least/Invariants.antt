use Rattle.model_rosters.specs.PriceRooms.{IsRoomFor}
use Rattle.tree_cheapest.specs.Pricers.{IsMadeFor}
use Rattle.rows_graphs.proofs.prices.are_least.Given as goal

abbrev pub invariant-loop-cell : goal.invariant-loop-cell
invariant-loop-cell l = record {
  prices : IsRoomFor l.prices l.day;
  pricer : IsMadeFor l.graph l.pricer;
}
