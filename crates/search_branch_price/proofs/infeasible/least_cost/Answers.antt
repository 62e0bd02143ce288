use Rattle.std.proofs.Common.{[]}
use Rattle.model_rosters.specs.PriceRooms.{price_view}
use Rattle.check_parts.proofs.priced_part.LeastReduced.{least-reduced}
use Rattle.search_branch_price.proofs.PlainPrices.{plain-least}
use Rattle.search_branch_price.proofs.infeasible.least_cost.Goals as goal

pub returns : goal.returns
returns c =
    let i = c.args.instance.now in
    let h = c.in_ok-room.ensures in
    plain-least i c.requires.grammar h.0 h.1 c.least-least.result
    (least-reduced i c.requires.grammar (price_view c.in_ok-room.room) h.0 [] h.2 c.least-least.result c.least-least.ensures.least)
