-- An old roster is offered.
use Rattle.std.proofs.Common.{ℕ, arith, ◌≤◌, Option, None, Some, List}
use Rattle.model_rosters.specs.declared.instance.Instance.{Instance}
use Rattle.model_rosters.specs.declared.instance.Shift.{Shift}
use Rattle.model_rosters.specs.Rosters.{Costs}
use Rattle.check_certificates.specs.RosterCauses.{duties}
use Rattle.search_candidates.specs.declared.roster.Roster.{Roster}
use Rattle.search_candidates.specs.Offers.{limit_of}
use Rattle.search_candidates.specs.Rosters.{CostsAtMost}
use Rattle.search_primal.specs.OldRosters.{ReachesOld}

limit-most : (i : Instance) (found : Option Roster) (x : ℕ) → CostsAtMost x found → limit_of i found ≤ x
limit-most i None x h = absurd h
limit-most i (Some r) x h = h

-- the old roster was offered at its cost
pub offered-reaches : (i : Instance) (shifts : List Shift) (found best : Option Roster) → ((x : ℕ) → Costs i (duties shifts) x → CostsAtMost x found)
    → limit_of i best ≤ limit_of i found → ReachesOld i shifts best
offered-reaches i shifts found best cost least = λ x costs. let m = limit-most i found x (cost x costs) in omega (arith, m, least)
