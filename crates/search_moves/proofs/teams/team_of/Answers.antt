use Rattle.model_rosters.specs.Teams.{teams}
use Rattle.model_rosters.proofs.EachLemmas.{get-in}
use Rattle.check_parts.specs.roster_part.TeamViews.{team_view}
use Rattle.search_moves.proofs.teams.team_of.Goals as goal

pub returns-then-place-team_count : goal.returns-then-place-team_count
returns-then-place-team_count c = get-in (teams c.args.instance.now) _ (team_view c.team_at.result) c.team_at.ensures
