use Rattle.model_rosters.specs.Teams.{teams}
use Rattle.model_rosters.proofs.EachLemmas.{get-in}
use Rattle.check_parts.specs.roster_part.TeamViews.{team_view}
use Rattle.search_moves.proofs.choice.next_team.Goals as goal

pub returns : goal.returns
returns c = get-in (teams c.args.day.now.instance.now) c.in_ok-choice.choice.place (team_view c.team_at.result) c.team_at.ensures
