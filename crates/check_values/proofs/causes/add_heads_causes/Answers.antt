use Rattle.model_rosters.specs.Teams.{teams}
use Rattle.check_certificates.specs.RosterCauses.{duties}
use Rattle.check_parts.specs.roster_part.TeamViews.{team_view}
use Rattle.check_values.specs.Causes.{team_causes}
use Rattle.check_values.proofs.CauseLists.{gathered-next}
use Rattle.check_values.proofs.causes.add_heads_causes.Goals as goal

pub loop-place-preserved : goal.loop-place-preserved
loop-place-preserved c =
    gathered-next (team_causes (duties c.args.shifts.now)) (teams c.args.instance.now) c.loop-place.place (team_view c.team_at-team.result) c.args.out.now c.loop-place.out c.add_team_causes.new.out
    c.team_at-team.ensures c.loop-place.invariant c.in_ok-add_team_causes.ensures
