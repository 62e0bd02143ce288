-- The prices of a room are small.
use Rattle.std.proofs.Common.{◌^◌}
use Rattle.model_rosters.specs.declared.price_room.PriceRoom.{PriceRoom}
use Rattle.model_rosters.specs.PriceRooms.{price_view}
use Rattle.model_rosters.specs.RoomLaws.{view-small}
use Rattle.model_rosters.specs.Sums.{AllWithin}

pub room-within : (r : PriceRoom) → AllWithin (2 ^ 96) (price_view r)
room-within r =
    view-small r.periods r.letters.items r.rules.items r.arcs.items r.small_letters r.small_rules r.sorted_arcs r.small_arcs
