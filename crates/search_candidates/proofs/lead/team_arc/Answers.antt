use Rattle.search_candidates.proofs.Numbers.{small-number}
use Rattle.std.proofs.Common.{arith}
use Rattle.check_parts.specs.roster_part.TeamViews.{team_view}
use Rattle.search_candidates.proofs.lead.team_arc.Goals as goal

pub overflow_cast-rule-2 : goal.overflow_cast-rule-2
overflow_cast-rule-2 c =
    let few = small-number c.args.instance.now c.requires.sound (team_view c.args.team.now) c.requires.team in
    omega (arith, few, c.len.ensures, c.len-2.ensures)
