use Rattle.std.proofs.Common.{[]}
use Rattle.model_rosters.specs.PriceRooms.{price_view}
use Rattle.check_parts.proofs.priced_part.LeastReduced.{filled-for_all}
use Rattle.search_branch_price.proofs.infeasible.derived.Goals as goal

pub derived_names-derived-requires-clause-filled : goal.derived_names-derived-requires-clause-filled
derived_names-derived-requires-clause-filled c =
    let h = c.in_ok-room.ensures in
    filled-for_all c.args.instance.now c.requires.grammar (price_view c.in_ok-room.room) h.0 [] h.2 c.least.new.self c.least.ensures.filled
