use Rattle.std.proofs.Common.{◌≡◌, ◌≤◌, length, arith}
use Rattle.std.proofs.lemmas.Int.{ints}
use Rattle.model_rosters.specs.Folds.{sum_z}
use Rattle.model_rosters.specs.Reduced.{cell_prices, cut_prices}
use Rattle.law_bounds.specs.Lagrangian.{trees_share, cell_share, cut_share}
use Rattle.model_rosters.proofs.CostBounds.{cells-le}
use Rattle.model_rosters.proofs.SoundCells.{cells_limited}
use Rattle.check_parts.proofs.priced_part.shares.lagrangian_sum.Goals as goal

pub cells_share-cells-requires-clause-few : goal.cells_share-cells-requires-clause-few
cells_share-cells-requires-clause-few c = rw c.as_slice.ensures (cells-le c.args.instance.now c.requires.sound)

pub cells_share-cells-requires-clause-limited : goal.cells_share-cells-requires-clause-limited
cells_share-cells-requires-clause-limited c = rw c.as_slice.ensures (cells_limited c.args.instance.now.grammar c.args.instance.now.cells c.requires.sound.cells)

pub overflow_add-result : goal.overflow_add-result
overflow_add-result c =
    let few : length c.as_slice.result.now ≤ 768 = rw c.as_slice.ensures (cells-le c.args.instance.now c.requires.sound) in
    let h = c.trees_share-trees.ensures.within in
    let w = c.cells_share-cells.ensures.within in
    omega (arith, ints, few, h.low, h.high, w.low, w.high)

pub overflow_add-result-2 : goal.overflow_add-result-2
overflow_add-result-2 c =
    let few : length c.as_slice.result.now ≤ 768 = rw c.as_slice.ensures (cells-le c.args.instance.now c.requires.sound) in
    let h = c.trees_share-trees.ensures.within in
    let w = c.cells_share-cells.ensures.within in
    let u = c.cuts_share-cuts.ensures.within in
    omega (arith, ints, few, c.requires.fit.few, h.low, h.high, w.low, w.high, u.low, u.high)

pub returns-clause-value : goal.returns-clause-value
returns-clause-value c =
    let i = c.args.instance.now in
    let few : length c.as_slice.result.now ≤ 768 = rw c.as_slice.ensures (cells-le i c.requires.sound) in
    let h = c.trees_share-trees.ensures.within in
    let w = c.cells_share-cells.ensures.within in
    let u = c.cuts_share-cuts.ensures.within in
    let trees : c.trees_share-trees.result ≡ trees_share i.heads_min i.heads_max c.args.least = c.trees_share-trees.ensures.value in
    let cells : c.cells_share-cells.result ≡ sum_z (cell_share c.args.d i.heads_max) (cell_prices i.cells c.args.cell.now) = rw c.as_slice.ensures at c.cells_share-cells.ensures.value in
    let cuts : c.cuts_share-cuts.result ≡ sum_z cut_share (cut_prices 1 c.args.cuts.now c.args.mult.now) = c.cuts_share-cuts.ensures.value in
    omega (arith, ints, few, c.requires.fit.few, trees, cells, cuts, h.low, h.high, w.low, w.high, u.low, u.high)

pub returns-clause-within : goal.returns-clause-within
returns-clause-within c =
    let few : length c.as_slice.result.now ≤ 768 = rw c.as_slice.ensures (cells-le c.args.instance.now c.requires.sound) in
    let h = c.trees_share-trees.ensures.within in
    let w = c.cells_share-cells.ensures.within in
    let u = c.cuts_share-cuts.ensures.within in
    record {
      low = omega (arith, ints, few, c.requires.fit.few, h.low, h.high, w.low, w.high, u.low, u.high);
      high = omega (arith, ints, few, c.requires.fit.few, h.low, h.high, w.low, w.high, u.low, u.high);
    }
