use Rattle.std.proofs.Common.{arith}
use Rattle.model_rosters.proofs.SoundCells.{cells_of_day}
use Rattle.check_values.proofs.remaining_day.CausesLemmas.{small_prices}
use Rattle.check_values.proofs.remaining_day.RestsMade.{rest-of}
use Rattle.check_values.proofs.FoundPrices.{found-length}
use Rattle.check_values.proofs.remaining_day.keep.rest.Goals as goal

pub cells_left-requires-clause-cells : goal.cells_left-requires-clause-cells
cells_left-requires-clause-cells c =
    rw c.as_slice.ensures (cells_of_day c.args.instance.now.grammar c.args.instance.now.cells c.requires.sound.cells)

pub paid-requires-clause-few : goal.paid-requires-clause-few
paid-requires-clause-few c = omega (arith, found-length c.args.instance.now c.args.kept.now c.args.found.now c.requires.found, c.requires.few)

pub paid-requires-clause-small : goal.paid-requires-clause-small
paid-requires-clause-small c = small_prices c.args.instance.now c.requires.sound c.args.kept.now c.args.found.now c.requires.found

pub returns : goal.returns
returns c =
    rest-of c.args.instance.now c.requires.sound c.args.kept.now c.args.found.now c.requires.found c.requires.fits c.in_ok-day.day c.args.groups c.args.heads.least c.args.heads.most c.in_ok-cells.cells
    c.paid.result c.kept_penalty.result c.in_ok-day.ensures c.requires.groups c.requires.least c.requires.most (rw c.as_slice.ensures at c.in_ok-cells.ensures) c.requires.some c.paid.ensures c.kept_penalty.ensures
