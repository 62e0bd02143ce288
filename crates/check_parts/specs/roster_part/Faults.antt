-- A roster that is stated rightly, and the first cause for which one is not.
use Rattle.std.specs.Prelude.{ℕ, ◌≡◌, ◌+◌, List, Some, slice_get}
use Rattle.model_rosters.specs.declared.instance.Instance.{Instance}
use Rattle.model_rosters.specs.declared.instance.Shift.{Shift}
use Rattle.model_rosters.specs.Duties.{duty}
use Rattle.model_rosters.specs.Folds.{Each}
use Rattle.model_rosters.specs.Rosters.{ArePrices, HasHeads, IsTeamPrice, roster_cost}
use Rattle.model_rosters.specs.Teams.{teams}
use Rattle.check_certificates.specs.declared.why.Why.{Why}
use Rattle.check_certificates.specs.declared.why.Why.TheVariants.{NotAShift, ShiftCost, WrongHeads, WrongCost, NotAnArc, EmptyHalf, NotPinned, BoundTooHigh, Outside}
use Rattle.check_certificates.specs.RosterCauses.{duties, stated_prices, IsFirstNoShift, IsFirstMispriced, IsFirstOutOfRange, IsMiscounted, IsFirstOutside}

-- each word is a shift of its team at its stated price, as many employees of each team work as may,
-- and together the roster costs what is said
pub record IsRightlyStated (i : Instance) (cost : ℕ) (shifts : List Shift) : Type 0 where
  pub prices : ArePrices i (duties shifts) (stated_prices shifts)
  pub heads : Each (HasHeads (duties shifts)) (teams i)
  pub total : cost ≡ roster_cost i (duties shifts) (stated_prices shifts)

-- no shift is none of its team
abbrev pub HasNoOtherWord : Instance → List Shift → Type 0
HasNoOtherWord i shifts = (k : ℕ) → IsFirstNoShift i shifts k → ⊥

-- no shift has another price
abbrev pub HasNoOtherPrice : Instance → List Shift → Type 0
HasNoOtherPrice i shifts = (k said least : ℕ) → IsFirstMispriced i shifts k said least → ⊥

-- no team's number of shifts is outside its range
abbrev pub HasNoOtherHeads : Instance → List Shift → Type 0
HasNoOtherHeads i shifts = (g n : ℕ) → IsFirstOutOfRange i shifts g n → ⊥

-- the shift before place k has this price in its team
abbrev pub IsPriceBefore : Instance → List Shift → ℕ → ℕ → Type 0
IsPriceBefore i shifts k price =
    (j : ℕ) (s : Shift) → j + 1 ≡ k → slice_get shifts j ≡ Some s → IsTeamPrice i (duty s) price

-- the first cause on the words and their prices
abbrev pub IsPriceCause : Instance → List Shift → Why → Type 0
IsPriceCause i shifts (NotAShift k) = IsFirstNoShift i shifts k
IsPriceCause i shifts (ShiftCost k said least) =
    HasNoOtherWord i shifts × IsFirstMispriced i shifts k said least
IsPriceCause i shifts (WrongHeads g n) = ⊥
IsPriceCause i shifts (WrongCost said found) = ⊥
IsPriceCause i shifts (NotAnArc n) = ⊥
IsPriceCause i shifts (EmptyHalf n) = ⊥
IsPriceCause i shifts (NotPinned n a) = ⊥
IsPriceCause i shifts (BoundTooHigh said shown) = ⊥
IsPriceCause i shifts (Outside byte period n) = ⊥

-- the first cause on the teams' numbers of shifts
abbrev pub IsHeadsCause : Instance → List Shift → Why → Type 0
IsHeadsCause i shifts (NotAShift k) = ⊥
IsHeadsCause i shifts (ShiftCost k said least) = ⊥
IsHeadsCause i shifts (WrongHeads g n) = IsFirstOutOfRange i shifts g n
IsHeadsCause i shifts (WrongCost said found) = ⊥
IsHeadsCause i shifts (NotAnArc n) = ⊥
IsHeadsCause i shifts (EmptyHalf n) = ⊥
IsHeadsCause i shifts (NotPinned n a) = ⊥
IsHeadsCause i shifts (BoundTooHigh said shown) = ⊥
IsHeadsCause i shifts (Outside byte period n) = ⊥

-- the first cause on the roster and its stated cost: it holds, and none of lesser number does
abbrev pub IsRosterCause : Instance → ℕ → List Shift → Why → Type 0
IsRosterCause i cost shifts (NotAShift k) = IsFirstNoShift i shifts k
IsRosterCause i cost shifts (ShiftCost k said least) =
    HasNoOtherWord i shifts × IsFirstMispriced i shifts k said least
IsRosterCause i cost shifts (WrongHeads g n) =
    HasNoOtherWord i shifts × HasNoOtherPrice i shifts × IsFirstOutOfRange i shifts g n
IsRosterCause i cost shifts (WrongCost said found) =
    HasNoOtherWord i shifts × HasNoOtherPrice i shifts × HasNoOtherHeads i shifts × (said ≡ cost)
    × IsMiscounted i shifts said found
IsRosterCause i cost shifts (NotAnArc n) = ⊥
IsRosterCause i cost shifts (EmptyHalf n) = ⊥
IsRosterCause i cost shifts (NotPinned n a) = ⊥
IsRosterCause i cost shifts (BoundTooHigh said shown) = ⊥
IsRosterCause i cost shifts (Outside byte period n) = ⊥

-- the first cell whose coverage is outside its floor and ceiling
abbrev pub IsCoverageCause : Instance → List Shift → Why → Type 0
IsCoverageCause i shifts (NotAShift k) = ⊥
IsCoverageCause i shifts (ShiftCost k said least) = ⊥
IsCoverageCause i shifts (WrongHeads g n) = ⊥
IsCoverageCause i shifts (WrongCost said found) = ⊥
IsCoverageCause i shifts (NotAnArc n) = ⊥
IsCoverageCause i shifts (EmptyHalf n) = ⊥
IsCoverageCause i shifts (NotPinned n a) = ⊥
IsCoverageCause i shifts (BoundTooHigh said shown) = ⊥
IsCoverageCause i shifts (Outside byte period n) = IsFirstOutside i shifts byte period n
