use Rattle.model_rosters.specs.declared.instance.Prices.{Prices}
use Rattle.model_rosters.specs.PriceRooms.{price_view}
use Rattle.model_rosters.proofs.RoomWithin.{room-within}
use Rattle.check_parts.proofs.priced_part.LeastReduced.{least-reduced, least-small, filled-for_all}
use Rattle.check_parts.proofs.priced_part.priced.least_reduced.Goals as goal

pub returns-clause-least : goal.returns-clause-least
returns-clause-least c =
    let p : Prices = record { d = c.args.d; cell = c.args.cell.now; mult = c.args.mult.now } in
    least-reduced c.args.instance.now c.requires.sound.grammar (price_view c.set_parts.new.self) p c.args.cuts.now c.set_parts.ensures.value c.least.result c.least.ensures.least

pub returns-clause-within : goal.returns-clause-within
returns-clause-within c =
    let r = c.set_parts.new.self in
    least-small c.args.instance.now.grammar c.requires.sound.grammar (price_view r)
    (room-within r) c.least.result c.least.ensures.least

pub returns-clause-filled : goal.returns-clause-filled
returns-clause-filled c =
    let p : Prices = record { d = c.args.d; cell = c.args.cell.now; mult = c.args.mult.now } in
    filled-for_all c.args.instance.now c.requires.sound.grammar (price_view c.set_parts.new.self) p c.args.cuts.now c.set_parts.ensures.value c.least.new.self c.least.ensures.filled
