use Rattle.std.proofs.Common.{rules}
use Rattle.search_node_columns.proofs.RowPrices.{few_cuts}
use Rattle.model_rosters.proofs.CostBounds.{cells-le}
use Rattle.search_node_columns.proofs.first.numbers_of.Goals as goal

pub overflow_add-result-2 : goal.overflow_add-result-2
overflow_add-result-2 c =
    let a = few_cuts c.args.instance.now c.args.cuts.now 1500 c.requires.small in
    let b = cells-le c.args.instance.now c.requires.sound in
    search rules

pub overflow_add-result : goal.overflow_add-result
overflow_add-result c =
    let a = few_cuts c.args.instance.now c.args.cuts.now 1500 c.requires.small in
    let b = cells-le c.args.instance.now c.requires.sound in
    search rules
