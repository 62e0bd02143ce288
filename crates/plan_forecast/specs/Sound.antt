-- Forecasts whose numbers are small.
use Rattle.std.specs.Prelude.{ℕ, ◌≤◌, List, IfSome}
use Rattle.model_rosters.specs.Folds.{Each}
use Rattle.plan_meaning.specs.declared.forecast.Column.{Column}
use Rattle.plan_meaning.specs.declared.forecast.Forecast.{Forecast}

-- numbers from 0 to 64
abbrev pub AreSmall : List ℕ → Type 0
AreSmall ns = Each (λ (n : ℕ). n ≤ 64) ns

pub record IsSmallColumn (c : Column) : Type 0 where
  pub need : AreSmall c.need
  pub least : IfSome c.least AreSmall
  pub most : IfSome c.most AreSmall

-- steps of some minutes, and numbers from 0 to 64
pub record IsSmallForecast (f : Forecast) : Type 0 where
  pub step : 1 ≤ f.step
  pub columns : Each IsSmallColumn f.columns
