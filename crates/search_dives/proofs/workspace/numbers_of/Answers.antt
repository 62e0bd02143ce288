use Rattle.std.proofs.Common.{◌≤◌, arith, length, rules}
use Rattle.law_bounds.proofs.master_laws.RowSizes.{row_count}
use Rattle.model_rosters.proofs.CostBounds.{cells-le}
use Rattle.search_dives.proofs.workspace.numbers_of.Goals as goal

pub overflow_add-result-2 : goal.overflow_add-result-2
overflow_add-result-2 c =
    let a : length c.args.task.now.cuts.now ≤ 1500 = omega (arith, row_count c.args.task.now.day.instance.now c.args.task.now.cuts.now, c.requires.rows.few) in
    let b = cells-le c.args.task.now.day.instance.now c.requires.day.sound in
    search rules

pub overflow_add-result : goal.overflow_add-result
overflow_add-result c =
    let a : length c.args.task.now.cuts.now ≤ 1500 = omega (arith, row_count c.args.task.now.day.instance.now c.args.task.now.cuts.now, c.requires.rows.few) in
    let b = cells-le c.args.task.now.day.instance.now c.requires.day.sound in
    search rules
