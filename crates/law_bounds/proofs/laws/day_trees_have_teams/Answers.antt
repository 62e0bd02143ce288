use Rattle.law_bounds.proofs.DayTeams.{team-of}
use Rattle.law_bounds.proofs.laws.day_trees_have_teams.Goals as goal

pub returns : goal.returns
returns c = λ i t sound day. team-of i t sound day
