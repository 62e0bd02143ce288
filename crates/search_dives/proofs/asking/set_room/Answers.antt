use Rattle.std.proofs.Common.{◌≤◌, arith, length}
use Rattle.law_bounds.proofs.master_laws.RowSizes.{row_count}
use Rattle.search_dives.proofs.WidePrices.{are-wide}
use Rattle.search_dives.proofs.asking.set_room.Goals as goal

pub set_wide-requires-clause-fit : goal.set_wide-requires-clause-fit
set_wide-requires-clause-fit c =
    let few : length c.args.task.now.cuts.now ≤ 1500 = omega (arith, row_count c.args.task.now.day.instance.now c.args.task.now.cuts.now, c.requires.task.rows.few) in
    are-wide c.args.task.now.day.instance.now c.args.task.now.cuts.now c.args.numbers.now c.split_at.result.0.now c.split_at.result.1.now c.split_at-2.result.1.now c.len-cells.result
    c.requires.rooms.count c.requires.small few c.len-cells.ensures c.split_at.ensures.front c.split_at.ensures.back c.split_at-2.ensures.back
