-- Rooms that fit a day.
use Rattle.std.specs.Prelude.{◌≡◌, List}
use Rattle.model_rosters.specs.PriceRooms.{IsRoomFor}
use Rattle.tree_cheapest.specs.Pricers.{IsMadeFor}
use Rattle.tree_pool.specs.Pools.{PoolTree, IsPool, IsGrown}
use Rattle.lp_master_rows.specs.declared.search_day.day.Day.{Day}
use Rattle.lp_master_rows.specs.declared.search_day.pricing.Pricing.{Pricing}

-- the pricer is the graph's, and the room is the instance's
pub record ArePricing (d : Day) (p : Pricing) : Type 0 where
  pub pricer : IsMadeFor d.graph.now p.pricer
  pub room : IsRoomFor p.room d.instance.now

-- they still fit, with room for as many multipliers
pub record StayPricing (d : Day) (old new : Pricing) : Type 0 where
  pub are : ArePricing d new
  pub most : new.room.most ≡ old.room.most

-- its trees are the day's, and the old ones kept their numbers
pub record Grows (d : Day) (old new : List PoolTree) : Type 0 where
  pub are : IsPool d.instance.now.grammar new
  pub grown : IsGrown old new
