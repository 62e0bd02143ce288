-- Rooms of prices.
use Rattle.std.specs.Prelude.{◌≡◌, length}
use Rattle.model_rosters.specs.declared.instance.Instance.{Instance}
use Rattle.model_rosters.specs.declared.price_room.PriceRoom.{PriceRoom}
use Rattle.model_rosters.specs.RoomPrices.{numbers_view}
use Rattle.model_rosters.specs.Sums.{PriceView}

-- the prices that a room holds
abbrev pub price_view : PriceRoom → PriceView
price_view r = numbers_view r.periods r.letters.items r.rules.items r.arcs.items

-- the room was made for as many periods, codes and rules
pub record IsRoomFor (r : PriceRoom) (i : Instance) : Type 0 where
  pub periods : r.periods ≡ i.grammar.periods
  pub codes : r.codes ≡ length i.grammar.codes
  pub rules : length r.rules.items ≡ length i.grammar.rules
