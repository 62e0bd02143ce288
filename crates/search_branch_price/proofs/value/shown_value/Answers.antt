use Rattle.std.proofs.Common.{arith, pos}
use Rattle.std.specs.Prelude.{◌≤ℤ◌, ◌<ℤ◌}
use Rattle.std.proofs.lemmas.Int.{ints}
use Rattle.model_rosters.specs.declared.instance.Mult.{Mult}
use Rattle.model_rosters.specs.declared.instance.Prices.{Prices}
use Rattle.model_rosters.specs.PriceRooms.{price_view}
use Rattle.model_rosters.proofs.RoomWithin.{room-within}
use Rattle.model_rosters.proofs.Mults.{nonzero-all}
use Rattle.model_rosters.proofs.EachLemmas.{Each-weaker}
use Rattle.check_parts.proofs.priced_part.LeastReduced.{least-reduced, least-small}
use Rattle.search_branch_price.proofs.value.shown_value.Goals as goal

pub value_from_least-requires-clause-least : goal.value_from_least-requires-clause-least
value_from_least-requires-clause-least c =
    let i = c.args.searched.now.day.instance.now in
    let p : Prices = record { d = c.args.prices.now.d; cell = c.as_slice-cell.result.now; mult = c.as_slice-mult.result.now } in
    least-reduced i c.requires.searched.is.day.sound.grammar (price_view c.set_parts.new.self) p c.args.cuts.now c.set_parts.ensures.value c.cheapest-least.result
    (c.cheapest-least.ensures.least i.grammar c.requires.searched.is.day.sound.grammar c.requires.searched.is.day.graph)

pub value_from_least-requires-clause-within : goal.value_from_least-requires-clause-within
value_from_least-requires-clause-within c =
    let g = c.args.searched.now.day.instance.now.grammar in
    least-small g c.requires.searched.is.day.sound.grammar (price_view c.set_parts.new.self) (room-within c.set_parts.new.self) c.cheapest-least.result
    (c.cheapest-least.ensures.least g c.requires.searched.is.day.sound.grammar c.requires.searched.is.day.graph)

pub set_parts-requires-clause-few : goal.set_parts-requires-clause-few
set_parts-requires-clause-few c =
    let listed = Each-weaker (λ (m : Mult). pos 0 <ℤ m.value) (λ (m : Mult). pos 1 ≤ℤ m.value) c.args.prices.now.mult (λ m h. omega (arith, ints, h)) c.requires.prices.positive in
    let all = nonzero-all c.args.prices.now.mult listed in
    rw c.as_slice-mult.ensures (omega (arith, all, c.requires.prices.fit.few, c.requires.most))
