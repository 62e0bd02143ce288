-- Teams as the code holds them.
use Rattle.std.specs.Prelude.{ℕ, ◌≡◌}
use Rattle.model_rosters.specs.declared.instance.Instance.{Instance}
use Rattle.model_rosters.specs.Folds.{In}
use Rattle.model_rosters.specs.Teams.{Team, teams}
use Rattle.check_parts.specs.declared.roster_part.team.Team.{Team as HeldTeam}

abbrev pub team_view : HeldTeam → Team
team_view t = record { number = t.number; name = t.name; least = t.least; most = t.most }

-- the team of the number has the name, and no other team has the number
pub record IsTeamName (i : Instance) (number name : ℕ) : Type 0 where
  pub team : Team
  pub listed : In team (teams i)
  pub numbered : team.number ≡ number
  pub named : team.name ≡ name
  pub only : (t : Team) → In t (teams i) → t.number ≡ number → t.name ≡ name
