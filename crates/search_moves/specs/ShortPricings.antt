-- What prices trees for moves, over the arcs that are kept.
use Rattle.std.specs.Prelude.{ℤ, Option, IfSome}
use Rattle.model_rosters.specs.PriceRooms.{IsRoomFor}
use Rattle.tree_short_order.specs.declared.short_order.ShortOrder.{ShortOrder}
use Rattle.tree_short_order.specs.Shorts.{IsShortFor, HasRoot}
use Rattle.lp_master_rows.specs.declared.search_day.day.Day.{Day}
use Rattle.lp_master_rows.specs.search_day.Days.{IsDay}
use Rattle.search_moves.specs.declared.short_pricing.ShortPricing.{ShortPricing}

-- the short order is the graph's, and the room is the instance's
pub record AreShortPricing (d : Day) (p : ShortPricing) : Type 0 where
  pub short : IsShortFor d.graph.now p.short
  pub room : IsRoomFor p.room d.instance.now

-- the day is sound, and the short order is its graph's
pub record IsShortDay (d : Day) (s : ShortOrder) : Type 0 where
  pub day : IsDay d
  pub short : IsShortFor d.graph.now s

-- and where a sum was found, the day has a tree
pub record IsShortPriced (d : Day) (s : ShortOrder) (z : Option ℤ) : Type 0 where
  pub priced : IsShortDay d s
  pub root : IfSome z (λ (n : ℤ). HasRoot d.graph.now)
