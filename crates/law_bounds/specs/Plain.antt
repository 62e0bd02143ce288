-- What rosters and Lagrangian values are on a day without groups, floors and ceilings.
use Rattle.std.specs.Prelude.{ℕ, ℤ, pos, ◌≡◌, ◌≢◌, ◌≤◌, ◌<◌, ◌+◌, ◌+ℤ◌, ◌*ℤ◌, ◌⊎◌, ◌↔◌, Option, None, List, [], ◌∷◌, length}
use Rattle.model_rosters.specs.declared.instance.Cell.{Cell}
use Rattle.model_rosters.specs.declared.instance.Cut.{Cut}
use Rattle.model_rosters.specs.declared.instance.Instance.{Instance}
use Rattle.model_rosters.specs.declared.instance.Prices.{Prices}
use Rattle.model_rosters.specs.Folds.{sum_z, Each}
use Rattle.model_rosters.specs.Duties.{Duty}
use Rattle.model_rosters.specs.Shifts.{IsPrice}
use Rattle.model_rosters.specs.Rosters.{IsRoster}
use Rattle.model_rosters.specs.GreatestCost.{greatest_cost}
use Rattle.model_rosters.specs.Reduced.{CellPrice, cell_prices, cut_prices}
use Rattle.model_rosters.specs.SoundInstance.{IsSoundInstance}
use Rattle.law_bounds.specs.Lagrangian.{trees_share, least_from, cell_at, cut_share, IsLeastReduced, IsLagrangian}

-- the floor and the ceiling say nothing, since at most 64 employees work
pub record IsFree (c : Cell) : Type 0 where
  pub floor : c.floor ≡ 0
  pub ceiling : c.ceiling ≡ 64

pub record IsPlainDay (i : Instance) : Type 0 where
  pub groups : i.groups ≡ []
  pub cells : Each IsFree i.cells

-- shifts of the start name, at these prices
abbrev pub AreShifts : Instance → List Duty → List ℕ → Type 0
AreShifts i [] [] = Unit {0}
AreShifts i (d ∷ ds) (p ∷ ps) = (d.team ≡ 0) × IsPrice i.grammar i.grammar.start d.word p × AreShifts i ds ps
AreShifts i [] (p ∷ ps) = ⊥
AreShifts i (d ∷ ds) [] = ⊥

-- shifts whose number is in the range of the heads
pub record IsPlainRoster (i : Instance) (ds : List Duty) (prices : List ℕ) : Type 0 where
  pub shifts : AreShifts i ds prices
  pub enough : i.heads_min ≤ length ds
  pub few : length ds ≤ i.heads_max

-- the least that the cell brings, over all counts up to `most`
abbrev pub plain_share : ℕ → ℕ → CellPrice → ℤ
plain_share d most p = least_from (cell_at d p) 0 most

abbrev pub plain_relaxed : Instance → Prices → List Cut → Option ℤ → ℤ
plain_relaxed i p cuts z =
    trees_share i.heads_min i.heads_max z
    +ℤ sum_z (plain_share p.d i.heads_max) (cell_prices i.cells p.cell)
    +ℤ sum_z cut_share (cut_prices 1 cuts p.mult)

-- that sum, or more than d times any roster's cost where employees are needed and the day has no tree
pub record IsPlainLagrangian (i : Instance) (p : Prices) (cuts : List Cut) (v : ℤ) : Type 0 where
  pub z : Option ℤ
  pub least : IsLeastReduced i p cuts z
  pub value : ((0 < i.heads_min) × (z ≡ None) × (v ≡ pos p.d *ℤ pos (greatest_cost i + 1)))
      ⊎ ((0 < i.heads_min → z ≢ None) × (v ≡ plain_relaxed i p cuts z))

-- on such a day, an allowed roster is this
abbrev pub PlainRosters : Type 0
PlainRosters = (i : Instance) (ds : List Duty) (prices : List ℕ) → IsSoundInstance i → IsPlainDay i
    → (IsRoster i ds prices ↔ IsPlainRoster i ds prices)

-- on such a day, the Lagrangian value is this
abbrev pub PlainLagrangians : Type 0
PlainLagrangians = (i : Instance) (p : Prices) (cuts : List Cut) (v : ℤ) → IsSoundInstance i → IsPlainDay i
    → (IsLagrangian i p cuts v ↔ IsPlainLagrangian i p cuts v)
