use Rattle.std.proofs.Common.{◌≡◌, ◌++◌, take}
use Rattle.model_rosters.specs.Teams.{teams}
use Rattle.check_certificates.specs.RosterCauses.{duties}
use Rattle.check_values.specs.Causes.{gathered, team_causes}
use Rattle.check_values.proofs.causes.add_heads_causes.Given as goal

abbrev pub invariant-loop-place : goal.invariant-loop-place
invariant-loop-place l = l.out ≡ l.fn.out ++ gathered (team_causes (duties l.shifts)) (take l.place (teams l.instance))
