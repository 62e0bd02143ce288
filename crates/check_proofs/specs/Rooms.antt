-- What a bench has for an instance, beside its stack.
use Rattle.std.specs.Prelude.{◌≡◌}
use Rattle.model_rosters.specs.declared.grammar.Grammar.{Grammar}
use Rattle.model_rosters.specs.declared.instance.Instance.{Instance}
use Rattle.model_rosters.specs.PriceRooms.{IsRoomFor}
use Rattle.check_parts.specs.pinned_part.Rooms.{IsRoomFor as HasPlaces}
use Rattle.tree_span_arcs.specs.DayArcs.{IsDayArcsOf}
use Rattle.tree_span_table.specs.Tables.{IsMadeFor}
use Rattle.check_proofs.specs.declared.rooms.Rooms.{Rooms}
use Rattle.check_proofs.specs.declared.tables.Tables.{Tables}

-- the tables were made for the grammar
pub record AreTablesFor (g : Grammar) (t : Tables) : Type 0 where
  pub sums : IsMadeFor g t.sums
  pub arcs : IsDayArcsOf g t.arcs

-- the rooms were made for the instance, that for prices for 1,500 multipliers
pub record AreRoomsFor (i : Instance) (r : Rooms) : Type 0 where
  pub prices : IsRoomFor r.prices i
  pub most : r.prices.most ≡ 1500
  pub balances : HasPlaces i.grammar r.balances
