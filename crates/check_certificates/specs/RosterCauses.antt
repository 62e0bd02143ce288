-- What can be wrong with a stated roster.
use Rattle.std.specs.Prelude.{ℕ, ◌≡◌, ◌≢◌, ◌<◌, ◌⊎◌, List, map}
use Rattle.model_rosters.specs.declared.instance.Cell.{Cell}
use Rattle.model_rosters.specs.declared.instance.Instance.{Instance}
use Rattle.model_rosters.specs.declared.instance.Shift.{Shift}
use Rattle.model_rosters.specs.Coverage.{covered, code_byte}
use Rattle.model_rosters.specs.Duties.{Duty, duty}
use Rattle.model_rosters.specs.Folds.{count, In}
use Rattle.model_rosters.specs.Rosters.{ArePrices, IsTeamPrice, is_in_team, roster_cost}
use Rattle.model_rosters.specs.Shifts.{IsShift}
use Rattle.model_rosters.specs.Teams.{Team, teams}
use Rattle.check_certificates.specs.First.{IsFirst}

-- the stated words, each with the number of its team
abbrev pub duties : List Shift → List Duty
duties shifts = map duty shifts

-- the prices that shifts state, in order
abbrev pub stated_prices : List Shift → List ℕ
stated_prices shifts = map (λ (s : Shift). s.price) shifts

-- no team of the shift's number has the word as a shift
abbrev pub IsNoShift : Instance → Shift → Type 0
IsNoShift i s = (t : Team) → In t (teams i) → t.number ≡ s.group → IsShift i.grammar t.name s.word → ⊥

-- the shift's price is another
abbrev pub IsMispriced : Instance → Shift → Type 0
IsMispriced i s = (least : ℕ) × IsTeamPrice i (duty s) least × (s.price ≢ least)

-- too few or too many employees of the team work
abbrev pub IsOutOfRange : List Duty → Team → Type 0
IsOutOfRange ds t = (count (is_in_team t) ds < t.least) ⊎ (t.most < count (is_in_team t) ds)

-- the coverage is below the floor or above the ceiling
abbrev pub IsOutside : Instance → List Duty → Cell → Type 0
IsOutside i ds c = (covered i.grammar c ds < c.floor) ⊎ (c.ceiling < covered i.grammar c ds)

-- shift number k is the first that is none of its team
abbrev pub IsFirstNoShift : Instance → List Shift → ℕ → Type 0
IsFirstNoShift i shifts k = (s : Shift) × IsFirst (IsNoShift i) shifts k s

-- shift number k is the first with another price
pub record IsFirstMispriced (i : Instance) (shifts : List Shift) (k said least : ℕ) : Type 0 where
  pub shift : Shift
  pub first : IsFirst (IsMispriced i) shifts k shift
  pub stated : shift.price ≡ said
  pub price : IsTeamPrice i (duty shift) least

-- team number g is the first whose number of shifts, n, is outside its range
pub record IsFirstOutOfRange (i : Instance) (shifts : List Shift) (g n : ℕ) : Type 0 where
  pub place : ℕ
  pub team : Team
  pub first : IsFirst (IsOutOfRange (duties shifts)) (teams i) place team
  pub number : team.number ≡ g
  pub count : count (is_in_team team) (duties shifts) ≡ n

-- the roster has another cost
pub record IsMiscounted (i : Instance) (shifts : List Shift) (said found : ℕ) : Type 0 where
  pub prices : List ℕ
  pub priced : ArePrices i (duties shifts) prices
  pub cost : roster_cost i (duties shifts) prices ≡ found
  pub other : said ≢ found

-- the cell of this code byte and period is the first whose coverage, n, is outside its floor and ceiling
pub record IsFirstOutside (i : Instance) (shifts : List Shift) (byte period n : ℕ) : Type 0 where
  pub place : ℕ
  pub cell : Cell
  pub first : IsFirst (IsOutside i (duties shifts)) i.cells place cell
  pub code : code_byte i.grammar cell.code ≡ byte
  pub when : cell.period ≡ period
  pub count : covered i.grammar cell (duties shifts) ≡ n
