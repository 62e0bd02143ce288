use Rattle.std.proofs.Common.{rules, arith, ◌<◌, ◌^◌}
use Rattle.search_masters.proofs.EndsLemmas.{few_rows, small_path}
use Rattle.search_masters.proofs.solve.solve_node_from.Goals as goal

pub overflow_cast-result : goal.overflow_cast-result
overflow_cast-result g c =
    let e = c.count_rows-count.ensures in
    let f = few_rows c.args.day.now.instance.now c.args.cuts.now c.requires.node.day.sound c.requires.node.few in
    let h : c.count_rows-count.result < 2 ^ 32 = omega arith in
    search rules

pub new-requires-clause-cuts : goal.new-requires-clause-cuts
new-requires-clause-cuts g c = small_path c.args.day.now.instance.now c.args.cuts.now c.requires.node.path
