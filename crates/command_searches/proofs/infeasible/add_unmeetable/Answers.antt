use Rattle.std.proofs.Common.{rules}
use Rattle.command_searches.proofs.infeasible.add_unmeetable.Goals as goal

pub add_cells-requires : goal.add_cells-requires
add_cells-requires c = c.fill.ensures.kept c.args.instance.now.grammar (search rules)
