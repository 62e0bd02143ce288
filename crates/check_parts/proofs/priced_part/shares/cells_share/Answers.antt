use Rattle.std.proofs.Common.{◌≡◌, ◌<◌, ◌^◌, pos, length, get_or, arith}
use Rattle.std.proofs.lemmas.Int.{ints}
use mir.Val.{to_z, of_z}
use mir.Syntax.{w128}
use Rattle.model_rosters.specs.declared.instance.Cell.{Cell}
use Rattle.model_rosters.specs.Sums.{Within}
use Rattle.law_bounds.specs.Lagrangian.{cell_share}
use Rattle.check_parts.proofs.priced_part.CellSums.{cells-next}
use Rattle.check_parts.proofs.priced_part.shares.cells_share.Goals as goal

abbrev no_cell : Cell
no_cell = record { code = 0; period = 0; need = 0; under = 0; over = 0; floor = 0; ceiling = 0 }

pub loop-place-preserved : goal.loop-place-preserved
loop-place-preserved c =
    let k = c.loop-place.place in
    let within : k < length c.args.prices.now = omega (arith, c.requires.same, c.loop-place-test.true) in
    let price : Within (2 ^ 80) (get_or c.args.prices.now k (pos 0)) = c.requires.small k (pos 0) within in
    let fits : to_z w128 (of_z w128 (get_or c.args.prices.now k (pos 0))) ≡ get_or c.args.prices.now k (pos 0) = omega (arith, ints, price.low, price.high) in
    let share : c.cell_share-sum.result ≡ cell_share c.args.d c.args.most (record { cell = get_or c.args.cells.now k no_cell; price = get_or c.args.prices.now k (pos 0) }) =
    rw fits at c.cell_share-sum.ensures.value in
    let next = cells-next (cell_share c.args.d c.args.most) c.args.cells.now c.args.prices.now k no_cell (pos 0) c.requires.same c.loop-place-test.true in
    let i = c.loop-place.invariant in
    let w = c.cell_share-sum.ensures.within in
    let few = c.requires.few in
    record {
      value = omega (arith, ints, i.value, next, share, w.low, w.high, i.within.low, i.within.high);
      within = record {
        low = omega (arith, ints, w.low, w.high, i.within.low, i.within.high);
        high = omega (arith, ints, w.low, w.high, i.within.low, i.within.high);
      };
    }
