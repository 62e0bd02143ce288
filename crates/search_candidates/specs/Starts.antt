-- The roster with which a search begins.
use Rattle.std.specs.Prelude.{ℕ, ◌≡◌, ◌≤◌, ◌<◌, Option, None, Some, IfSome, List, [], ◌∷◌, ◌++◌, zero, suc}
use Rattle.model_rosters.specs.declared.instance.Cell.{Cell}
use Rattle.model_rosters.specs.declared.instance.Instance.{Instance}
use Rattle.model_rosters.specs.Duties.{Duty}
use Rattle.model_rosters.specs.Folds.{Each}
use Rattle.model_rosters.specs.Rosters.{Costs}
use Rattle.model_rosters.specs.Shifts.{IsPrice, IsShift}
use Rattle.model_rosters.specs.Teams.{Team, teams}
use Rattle.search_candidates.specs.declared.roster.Roster.{Roster}
use Rattle.search_candidates.specs.Rosters.{IsGoodRoster}

-- the word is a shift of the team, and no shift of the team has a lesser price
pub record IsCheapest (i : Instance) (team : Team) (w : List ℕ) : Type 0 where
  pub price : ℕ
  pub priced : IsPrice i.grammar team.name w price
  pub least : (v : List ℕ) (p : ℕ) → IsPrice i.grammar team.name v p → price ≤ p

-- the same duty many times
abbrev pub copies : ℕ → Duty → List Duty
copies zero d = []
copies (suc n) d = d ∷ copies n d

-- for each team its least number of equal shifts of least price
abbrev pub AreFewest : Instance → List Team → List Duty → Type 0
AreFewest i [] ds = ds ≡ []
AreFewest i (t ∷ ts) ds =
    (w : List ℕ) × (rest : List Duty) × (0 < t.least → IsCheapest i t w)
    × (ds ≡ copies t.least (record { team = t.number; word = w }) ++ rest) × AreFewest i ts rest

pub record IsStart (i : Instance) (ds : List Duty) : Type 0 where
  pub fewest : AreFewest i (teams i) ds

-- a cell that says nothing of the coverage of an allowed roster
pub record IsFreeCell (c : Cell) : Type 0 where
  pub floor : c.floor ≡ 0
  pub ceiling : c.ceiling ≡ 64

-- every floor is 0 and every ceiling 64, and each team that needs employees has a shift
pub record HasStart (i : Instance) : Type 0 where
  pub free : Each IsFreeCell i.cells
  pub shifts : Each (λ (t : Team). 0 < t.least → (w : List ℕ) × IsShift i.grammar t.name w) (teams i)

-- the cost is a number, at most that of some such roster
abbrev pub IsAtMostStart : Instance → Option ℕ → Type 0
IsAtMostStart i cost = (n : ℕ) × (cost ≡ Some n) × (ds : List Duty) × (m : ℕ) × IsStart i ds × Costs i ds m
    × (n ≤ m)

-- there is a roster, and it costs no more than some such one
abbrev pub StartsWith : Instance → Option Roster → Type 0
StartsWith i None = ⊥
StartsWith i (Some r) = IsAtMostStart i (Some r.cost)

-- a roster is allowed; where there is to be one of such shifts, there is one, and it costs no more
pub record IsFirstRoster (i : Instance) (found : Option Roster) : Type 0 where
  pub good : IfSome found (IsGoodRoster i)
  pub start : HasStart i → StartsWith i found
