use Rattle.model_rosters.specs.Teams.{teams}
use Rattle.model_rosters.proofs.EachLemmas.{get-in}
use Rattle.check_parts.specs.roster_part.TeamViews.{team_view}
use Rattle.search_moves.proofs.choice.best_choice.Goals as goal

pub team_sum-sum-requires-clause-team : goal.team_sum-sum-requires-clause-team
team_sum-sum-requires-clause-team c = get-in (teams c.args.day.now.instance.now) c.loop-place.place (team_view c.team_at-team.result) c.team_at-team.ensures
