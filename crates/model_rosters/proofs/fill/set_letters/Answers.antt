use Rattle.std.proofs.Common.{arith, ◌<◌, ◌*◌, ◌^◌, pos, length, get_or}
use Rattle.std.proofs.lemmas.Int.{ints}
use Rattle.model_rosters.specs.declared.instance.Cell.{Cell}
use Rattle.model_rosters.specs.Filled.{HasPlace}
use Rattle.model_rosters.specs.Reduced.{cell_prices}
use Rattle.model_rosters.specs.Sums.{Within}
use Rattle.model_rosters.proofs.LetterNumbers.{paid-step, paid-all}
use Rattle.model_rosters.proofs.fill.set_letters.Goals as goal

abbrev no_cell : Cell
no_cell = record { code = 0; period = 0; need = 0; under = 0; over = 0; floor = 0; ceiling = 0 }

pub loop-place-preserved : goal.loop-place-preserved
loop-place-preserved c =
    let k = c.loop-place.place in
    let q = c.place_of.result in
    let here : HasPlace c.args.periods (length c.loop-place.numbers) (get_or c.args.cells.now k no_cell) = rw (c.loop-place.auto.numbers, c.fill.ensures.len) (c.requires.places k no_cell c.loop-place-test.true) in
    let within : q < length c.loop-place.numbers = omega (arith, c.place_of.ensures, here.within) in
    let number : Within (2 ^ 80 * k) (get_or c.loop-place.numbers q (pos 0)) = c.loop-place.invariant.within q (pos 0) within in
    let price : Within (2 ^ 80) (get_or c.args.prices.now k (pos 0)) = c.requires.small k (pos 0) (omega (arith, c.requires.prices, c.loop-place-test.true)) in
    let r = paid-step c.args.periods c.args.cells.now c.args.prices.now (cell_prices c.args.cells.now c.args.prices.now) c.loop-place.numbers k no_cell q _
    c.requires.prices c.loop-place-test.true here c.place_of.ensures
    (omega (arith, ints, number.low, number.high, price.low, price.high, c.requires.few, c.loop-place-test.true))
    c.requires.small c.loop-place.invariant.value c.loop-place.invariant.within in
    record { value = r.0; within = r.1 }

pub returns-clause-value : goal.returns-clause-value
returns-clause-value c =
    paid-all c.args.periods c.args.cells.now c.args.prices.now (cell_prices c.args.cells.now c.args.prices.now) c.loop-place.numbers c.loop-place.place
    (omega arith) c.loop-place.invariant.value
