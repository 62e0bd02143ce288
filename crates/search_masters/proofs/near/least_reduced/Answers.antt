use Rattle.model_rosters.specs.PriceRooms.{price_view}
use Rattle.model_rosters.specs.declared.instance.Prices.{Prices}
use Rattle.model_rosters.proofs.RoomWithin.{room-within}
use Rattle.check_parts.proofs.priced_part.LeastReduced.{least-reduced, least-small}
use Rattle.search_masters.proofs.near.least_reduced.Goals as goal

pub returns-clause-least : goal.returns-clause-least
returns-clause-least c =
    let i = c.args.day.now.instance.now in
    let p : Prices = record { d = c.args.prices.now.d; cell = c.as_slice.result.now; mult = c.as_slice-mult.result.now } in
    let h = least-reduced i c.requires.day.sound.grammar (price_view c.set_parts.new.self) p c.args.cuts.now c.set_parts.ensures.value c.cheapest-least.result
    (c.cheapest-least.ensures.least i.grammar c.requires.day.sound.grammar c.requires.day.graph) in
    rw (c.as_slice.ensures, c.as_slice-mult.ensures) at h

pub returns-clause-within : goal.returns-clause-within
returns-clause-within c =
    let g = c.args.day.now.instance.now.grammar in
    least-small g c.requires.day.sound.grammar (price_view c.set_parts.new.self) (room-within c.set_parts.new.self) c.cheapest-least.result
    (c.cheapest-least.ensures.least g c.requires.day.sound.grammar c.requires.day.graph)
