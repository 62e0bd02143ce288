-- Rosters whose floors, or whose ceilings, count for nothing, and what they lack or have beyond.
use Rattle.std.specs.Prelude.{ℕ, ◌≡◌, ◌≤◌, ◌-◌, List}
use Rattle.model_rosters.specs.declared.instance.Cell.{Cell}
use Rattle.model_rosters.specs.declared.instance.Instance.{Instance}
use Rattle.model_rosters.specs.Coverage.{covered}
use Rattle.model_rosters.specs.Duties.{Duty}
use Rattle.model_rosters.specs.Folds.{sum_n, Each, In}
use Rattle.model_rosters.specs.Rosters.{HasHeads}
use Rattle.model_rosters.specs.Shifts.{IsShift}
use Rattle.model_rosters.specs.Teams.{Team, teams}
use Rattle.text_relaxed_days.specs.declared.kind.Kind.{Kind}
use Rattle.text_relaxed_days.specs.declared.kind.Kind.TheVariants.{Floors, Ceilings}

-- the word is a shift of its team
pub record IsTeamShift (i : Instance) (d : Duty) : Type 0 where
  pub team : Team
  pub listed : In team (teams i)
  pub numbered : team.number ≡ d.team
  pub shift : IsShift i.grammar team.name d.word

-- n employees are within the bound of the cell that stays strict
abbrev pub IsWithinOther : Kind → Cell → ℕ → Type 0
IsWithinOther Floors c n = n ≤ c.ceiling
IsWithinOther Ceilings c n = c.floor ≤ n

-- an allowed roster, but that the floors, or the ceilings, count for nothing
pub record IsRosterBut (kind : Kind) (i : Instance) (ds : List Duty) : Type 0 where
  pub shifts : Each (IsTeamShift i) ds
  pub heads : Each (HasHeads ds) (teams i)
  pub coverage : Each (λ (c : Cell). IsWithinOther kind c (covered i.grammar c ds)) i.cells

-- how many of n employees a cell lacks of its floor, or has beyond its ceiling
abbrev pub amiss : Kind → Cell → ℕ → ℕ
amiss Floors c n = c.floor - n
amiss Ceilings c n = n - c.ceiling

-- how many employees' periods a roster lacks, or has too many
abbrev pub all_amiss : Kind → Instance → List Duty → ℕ
all_amiss kind i ds = sum_n (λ (c : Cell). amiss kind c (covered i.grammar c ds)) i.cells
