-- Prices than which no others show much more.
use Rattle.std.specs.Prelude.{ℕ, ℤ, pos, ◌+ℤ◌, ◌-ℤ◌, ◌*ℤ◌, ◌≤ℤ◌, ◌≤◌, ◌<◌, ◌+◌, ◌*◌, ◌^◌, cond, nat_eq, Some, List, length}
use Rattle.model_rosters.specs.declared.instance.Cut.{Cut}
use Rattle.model_rosters.specs.declared.instance.Instance.{Instance}
use Rattle.model_rosters.specs.declared.instance.Mult.{Mult}
use Rattle.model_rosters.specs.declared.instance.Prices.{Prices}
use Rattle.model_rosters.specs.Trees.{Parts, IsDayTree}
use Rattle.model_rosters.specs.Folds.{Each}
use Rattle.model_rosters.specs.GreatestCost.{greatest_cost}
use Rattle.model_rosters.specs.Reduced.{CellPrice, cell_prices}
use Rattle.model_rosters.specs.RoundingLoss.{rounding_loss}
use Rattle.law_bounds.specs.Lagrangian.{IsLeastReduced, IsLagrangian}

-- what a unit costs by which a row of a node's linear program is not met
abbrev pub artificial_cost : Instance → ℕ
artificial_cost i = 64 * (greatest_cost i + 1)

-- a multiplier that a row with an artificial column can have
pub record IsRivalMult (most : ℕ) (m : Mult) : Type 0 where
  pub low : pos 0 ≤ℤ m.value
  pub high : m.value ≤ℤ pos most

-- the price of a cell that has a floor is at most what an artificial column leaves beside `over`
abbrev pub IsRivalPrice : Instance → ℕ → CellPrice → Type 0
IsRivalPrice i d q = 0 < q.cell.floor → q.price ≤ℤ ((pos (artificial_cost i) -ℤ pos q.cell.over) *ℤ pos d)

-- prices that compete: those that a linear program with artificial columns can have
pub record IsRival (i : Instance) (p : Prices) (cuts : List Cut) : Type 0 where
  pub some : 1 ≤ p.d
  pub mults : Each (IsRivalMult (artificial_cost i * p.d)) p.mult
  pub least : (z : ℤ) → IsLeastReduced i p cuts (Some z) → z ≤ℤ pos (artificial_cost i * p.d)
  pub floors : Each (IsRivalPrice i p.d) (cell_prices i.cells p.cell)

-- the denominator to which prices are rounded where none smaller makes them whole
abbrev pub rounding_denominator : ℕ
rounding_denominator = 2 ^ 20

-- what rounding may have taken off the value
abbrev pub loss : Instance → Prices → List Cut → ℕ
loss i p cuts = cond (nat_eq p.d rounding_denominator) (rounding_loss i (length cuts)) 0

-- no rival's value, over its denominator, is above that of the prices by more than the loss; this is
-- said only where the day has a tree
pub record AreBest (i : Instance) (p : Prices) (cuts : List Cut) : Type 0 where
  pub best : (t : Parts) → IsDayTree i.grammar t → (rival : Prices) → IsRival i rival cuts → (v w : ℤ)
      → IsLagrangian i p cuts v → IsLagrangian i rival cuts w
      → (w *ℤ pos p.d) ≤ℤ ((v +ℤ pos (loss i p cuts)) *ℤ pos rival.d)
