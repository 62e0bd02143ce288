-- Stated shifts at their prices on a day, whatever they state.
use Rattle.std.specs.Prelude.{ℕ, ◌≡◌, Option, None, Some, IfSome, MatchOption, List}
use Rattle.model_rosters.specs.declared.instance.Instance.{Instance}
use Rattle.model_rosters.specs.declared.instance.Shift.{Shift}
use Rattle.model_rosters.specs.Duties.{duty}
use Rattle.model_rosters.specs.Folds.{sum_n, Each}
use Rattle.model_rosters.specs.Rosters.{ArePrices, Costs, IsTeamPrice}
use Rattle.check_certificates.specs.RosterCauses.{duties, IsNoShift}
use Rattle.check_certificates.specs.Sound.{IsSoundShift}
use Rattle.search_candidates.specs.declared.roster.Roster.{Roster}
use Rattle.search_candidates.specs.Order.{AreAscending}
use Rattle.search_candidates.specs.Rosters.{AreKnown, IsGoodRoster, CostsAtMost}

-- the price of the word as a shift of the team of the number, none where it is none
abbrev pub IsPriceOf : Instance → ℕ → List ℕ → Option ℕ → Type 0
IsPriceOf i group w None = IsNoShift i (record { group = group; word = w; price = 0 })
IsPriceOf i group w (Some p) = IsTeamPrice i (record { team = group; word = w }) p

-- the same duty, at its price
pub record IsShiftAgain (i : Instance) (old new : Shift) : Type 0 where
  pub same : duty new ≡ duty old
  pub priced : IsTeamPrice i (duty new) new.price
  pub sound : IsSoundShift i new

-- the same duty at its price, none where its word is no shift of its team
abbrev pub FindsAgain : Instance → Shift → Option Shift → Type 0
FindsAgain i old found = MatchOption found (IsNoShift i old) (IsShiftAgain i old)

-- the words have no prices: some word is no shift of its team
abbrev pub HaveNoPrices : Instance → List Shift → Type 0
HaveNoPrices i ss = (ps : List ℕ) → ArePrices i (duties ss) ps → ⊥

-- the same duties at their prices, in some order
pub record AreShiftsAgain (i : Instance) (old new : List Shift) : Type 0 where
  pub in_order : List Shift
  pub same : duties in_order ≡ duties old
  pub priced : AreKnown i in_order
  pub sums : (f : Shift → ℕ) → sum_n f new ≡ sum_n f in_order
  pub known : AreKnown i new
  pub sound : Each (IsSoundShift i) new

-- those duties in the order of shifts, none where some word is no shift of its team
pub record FindsAllAgain (i : Instance) (old : List Shift) (found : Option (List Shift)) : Type 0 where
  pub again : MatchOption found (HaveNoPrices i old) (AreShiftsAgain i old)
  pub ascending : IfSome found AreAscending

-- a roster of these duties is allowed; where they are an allowed roster, there is one, and it costs no more
pub record IsRosterAgain (i : Instance) (shifts : List Shift) (found : Option Roster) : Type 0 where
  pub good : IfSome found (IsGoodRoster i)
  pub cost : (x : ℕ) → Costs i (duties shifts) x → CostsAtMost x found
