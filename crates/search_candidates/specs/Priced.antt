-- Pricers that are filled for prices.
use Rattle.model_rosters.specs.PriceRooms.{price_view}
use Rattle.model_rosters.specs.Sums.{PriceView}
use Rattle.tree_cheapest.specs.Pricers.{PricerView, IsMadeFor, IsFilled}
use Rattle.lp_master_rows.specs.declared.search_day.day.Day.{Day}
use Rattle.lp_master_rows.specs.declared.search_day.pricing.Pricing.{Pricing}
use Rattle.lp_master_rows.specs.search_day.Days.{IsDay}
use Rattle.search_candidates.specs.Leaders.{AreCosts}

-- the day is sound, and the pricer is its graph's, and filled for the prices
pub record IsPriced (d : Day) (p : PriceView) (w : PricerView) : Type 0 where
  pub day : IsDay d
  pub made : IsMadeFor d.graph.now w
  pub filled : IsFilled d.instance.now.grammar p d.graph.now w

-- it is filled for the prices in the room, under which the sum of a tree is its cost
pub record IsPricedByCosts (d : Day) (p : Pricing) : Type 0 where
  pub priced : IsPriced d (price_view p.room) p.pricer
  pub costs : AreCosts d.instance.now.grammar (price_view p.room)
