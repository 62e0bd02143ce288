-- The roster of an old certificate, with which a search begins.
use Rattle.std.specs.Prelude.{ℕ, ◌≡◌, ◌≤◌, Option, Some, List}
use Rattle.model_rosters.specs.declared.instance.Instance.{Instance}
use Rattle.model_rosters.specs.declared.instance.Shift.{Shift}
use Rattle.model_rosters.specs.Rosters.{Costs}
use Rattle.check_certificates.specs.RosterCauses.{duties}
use Rattle.search_candidates.specs.declared.roster.Roster.{Roster}
use Rattle.search_candidates.specs.Offers.{limit_of}

-- where the words of the shifts are an allowed roster of the day, there is a cost, and it is at most theirs
abbrev pub IsNoDearerThan : Instance → List Shift → Option ℕ → Type 0
IsNoDearerThan i shifts cost = (x : ℕ) → Costs i (duties shifts) x → (n : ℕ) × (cost ≡ Some n) × (n ≤ x)

-- where they are one, the best roster costs at most as much
abbrev pub ReachesOld : Instance → List Shift → Option Roster → Type 0
ReachesOld i shifts best = (x : ℕ) → Costs i (duties shifts) x → limit_of i best ≤ x
