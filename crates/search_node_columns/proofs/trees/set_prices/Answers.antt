use Rattle.std.proofs.Common.{◌≡◌, arith, rules, unsigned_abs}
use Rattle.std.proofs.lemmas.Int.{ints}
use Rattle.lp_fractions.specs.Row.{at}
use Rattle.search_node_columns.proofs.RowPrices.{are_wide, cell_part, paid_part, few_cuts}
use Rattle.search_node_columns.proofs.trees.set_prices.Goals as goal

pub set_wide-requires-clause-fit : goal.set_wide-requires-clause-fit
set_wide-requires-clause-fit c =
    let i = c.args.task.now.day.instance.now in
    let cuts = c.args.task.now.cuts.now in
    let out = c.gather.ensures i cuts c.requires.prices.task.rows c.len-cells.ensures c.requires.prices.count (rw c.len-cells.ensures c.requires.rooms.count) in
    let cell = cell_part i cuts (at c.args.y.now) c.gather.new.out c.split_at.result.0.now c.len-cells.result out c.len-cells.ensures c.split_at.ensures.front in
    let paid = paid_part i cuts (at c.args.y.now) c.gather.new.out c.split_at.result.1.now c.split_at-2.result.1.now c.len-cells.result out c.len-cells.ensures c.split_at.ensures.back c.split_at-2.ensures.back in
    let k : c.unsigned_abs.result ≡ unsigned_abs c.args.kappa = search rules in
    let some = c.requires.prices.narrow.some in
    let few = c.requires.prices.narrow.few in
    rw (cell, paid, k) (are_wide i cuts c.args.y.now (unsigned_abs c.args.kappa) (omega (arith, ints)) few c.requires.prices.narrow.prices (few_cuts i cuts 1500 c.requires.prices.task.rows.few))

pub returns-clause-value : goal.returns-clause-value
returns-clause-value c =
    let i = c.args.task.now.day.instance.now in
    let cuts = c.args.task.now.cuts.now in
    let out = c.gather.ensures i cuts c.requires.prices.task.rows c.len-cells.ensures c.requires.prices.count (rw c.len-cells.ensures c.requires.rooms.count) in
    let cell = cell_part i cuts (at c.args.y.now) c.gather.new.out c.split_at.result.0.now c.len-cells.result out c.len-cells.ensures c.split_at.ensures.front in
    let paid = paid_part i cuts (at c.args.y.now) c.gather.new.out c.split_at.result.1.now c.split_at-2.result.1.now c.len-cells.result out c.len-cells.ensures c.split_at.ensures.back c.split_at-2.ensures.back in
    let k : c.unsigned_abs.result ≡ unsigned_abs c.args.kappa = search rules in
    rw (cell, paid, k) at c.set_wide.ensures.value
