use Rattle.std.proofs.Common.{◌∙◌}
use Rattle.check_parts.proofs.roster_part.TeamNumbers.{team_count-is}
use Rattle.check_parts.proofs.roster_part.team.team_count.Goals as goal

pub returns : goal.returns
returns c = c.max.ensures ∙ team_count-is c.args.instance.now c.len.result c.len.ensures
