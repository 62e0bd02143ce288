use Rattle.std.proofs.Common.{rules}
use Rattle.command_searches.proofs.idle_codes.noted.Goals as goal

pub add_all_idle-requires : goal.add_all_idle-requires
add_all_idle-requires c = c.fill.ensures.kept c.args.instance.now.grammar (search rules)
