use Rattle.model_rosters.specs.Rosters.{HasHeads}
use Rattle.model_rosters.specs.Teams.{teams}
use Rattle.check_certificates.specs.RosterCauses.{duties}
use Rattle.check_parts.proofs.roster_part.Items.{Before}
use Rattle.check_parts.proofs.roster_part.totals.heads_fault.Given as goal

abbrev pub invariant-loop-place : goal.invariant-loop-place
invariant-loop-place l = Before (HasHeads (duties l.shifts)) (teams l.instance) l.place
