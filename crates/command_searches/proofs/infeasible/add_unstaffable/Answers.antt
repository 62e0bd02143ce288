use Rattle.std.proofs.Common.{rules}
use Rattle.command_searches.proofs.infeasible.add_unstaffable.Goals as goal

pub add_teams-requires-clause-made : goal.add_teams-requires-clause-made
add_teams-requires-clause-made c = c.least.ensures.kept c.args.instance.now.grammar (search rules)
