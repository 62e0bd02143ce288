-- A day of three shifts over three periods: its best prices at the root, and prices that are not best.
use Rattle.std.specs.Prelude.{pos, [], ◌∷◌}
use Rattle.model_rosters.specs.declared.instance.Prices.{Prices}
use Rattle.law_bounds.specs.BestPrices.{AreBest}
use Rattle.law_bounds.specs.Lagrangian.{IsLagrangian}
use Rattle.law_bounds.specs.WorkedDay.{day}

-- each cell at 1, and each at 0
abbrev pub ones : Prices
ones = record { d = 1; cell = pos 1 ∷ pos 1 ∷ pos 1 ∷ []; mult = [] }

abbrev pub zeros : Prices
zeros = record { d = 1; cell = pos 0 ∷ pos 0 ∷ pos 0 ∷ []; mult = [] }

-- the prices 1 1 1 show 3, which no others exceed, and the prices 0 0 0 show 0
pub record WorkedBest : Type 0 where
  pub ones_value : IsLagrangian day ones [] (pos 3)
  pub zeros_value : IsLagrangian day zeros [] (pos 0)
  pub best : AreBest day ones []
  pub worse : AreBest day zeros [] → ⊥
