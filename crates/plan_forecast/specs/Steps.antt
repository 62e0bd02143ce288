-- Reading a forecast step by step.
pub use Rattle.text_lines.specs.Steps.{◌>>=◌, each}
use Rattle.std.specs.Prelude.{ℕ, Option, None, Some, Result, Ok, Err}
use Rattle.text_lines.specs.Steps as steps
use Rattle.plan_cells.specs.declared.fault.CellFault.{CellFault}
use Rattle.plan_cells.specs.declared.fault.CellFault.TheVariants as cell
use Rattle.plan_forecast.specs.declared.fault.ForecastFault.{ForecastFault}
use Rattle.plan_forecast.specs.declared.fault.ForecastFault.TheVariants.{Cells, Memory}

-- what a call gave, seen by view, is what the text says, unless memory ran out
abbrev pub Reads : {A B : Type 0} → (A → B) → Result A ForecastFault → Result B ForecastFault → Type 0
Reads view result said = steps.Reads Memory view result said

-- the fault of the cells of this line
abbrev pub at_line : ℕ → CellFault → ForecastFault
at_line k cell.NoUtf8 = Cells k cell.NoUtf8
at_line k cell.ControlSign = Cells k cell.ControlSign
at_line k cell.Unclosed = Cells k cell.Unclosed
at_line k (cell.Behind word) = Cells k (cell.Behind word)
at_line k cell.Memory = Memory

-- what is said of the cells of this line
abbrev pub lifted : {A : Type 0} → ℕ → Result A CellFault → Result A ForecastFault
lifted k (Ok x) = Ok x
lifted k (Err e) = Err (at_line k e)

-- a value, where there is no fault
abbrev pub unless : {A E : Type 0} → Option E → A → Result A E
unless None x = Ok x
unless (Some e) x = Err e
