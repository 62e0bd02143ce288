-- Allowed rosters and their cost.
use Rattle.std.specs.Prelude.{ℕ, ◌≡◌, ◌≤◌, ◌+◌, Bool, nat_eq, List, [], ◌∷◌}
use Rattle.model_rosters.specs.declared.instance.Cell.{Cell}
use Rattle.model_rosters.specs.declared.instance.Instance.{Instance}
use Rattle.model_rosters.specs.Coverage.{covered, penalty, IsWithinCell}
use Rattle.model_rosters.specs.Duties.{Duty}
use Rattle.model_rosters.specs.Folds.{sum_n, count, Each, In}
use Rattle.model_rosters.specs.Shifts.{IsPrice}
use Rattle.model_rosters.specs.Teams.{Team, teams}

-- the word is a shift of its team, at this price
pub record IsTeamPrice (i : Instance) (d : Duty) (price : ℕ) : Type 0 where
  pub team : Team
  pub listed : In team (teams i)
  pub numbered : team.number ≡ d.team
  pub priced : IsPrice i.grammar team.name d.word price

-- each word is a shift of its team, and these are the prices in order
abbrev pub ArePrices : Instance → List Duty → List ℕ → Type 0
ArePrices i [] [] = Unit {0}
ArePrices i (d ∷ ds) (p ∷ ps) = IsTeamPrice i d p × ArePrices i ds ps
ArePrices i [] (p ∷ ps) = ⊥
ArePrices i (d ∷ ds) [] = ⊥

abbrev pub is_in_team : Team → Duty → Bool
is_in_team team d = nat_eq d.team team.number

-- as many employees of the team work as may
pub record HasHeads (ds : List Duty) (team : Team) : Type 0 where
  pub least : team.least ≤ count (is_in_team team) ds
  pub most : count (is_in_team team) ds ≤ team.most

-- an allowed roster whose shifts have these prices
pub record IsRoster (i : Instance) (ds : List Duty) (prices : List ℕ) : Type 0 where
  pub shifts : ArePrices i ds prices
  pub heads : Each (HasHeads ds) (teams i)
  pub coverage : Each (λ (c : Cell). IsWithinCell c (covered i.grammar c ds)) i.cells

-- the prices and the penalties of all cells
abbrev pub roster_cost : Instance → List Duty → List ℕ → ℕ
roster_cost i ds prices =
    sum_n (λ p. p) prices + sum_n (λ (c : Cell). penalty c (covered i.grammar c ds)) i.cells

-- an allowed roster costs this much
pub record Costs (i : Instance) (ds : List Duty) (amount : ℕ) : Type 0 where
  pub prices : List ℕ
  pub allowed : IsRoster i ds prices
  pub total : roster_cost i ds prices ≡ amount
