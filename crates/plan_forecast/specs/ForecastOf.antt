-- The forecast that a text says, or its first fault.
use Rattle.std.specs.Prelude.{ℕ, nat_lt, List, [], length, None, Some, Result, Ok, Err, if◌then◌else◌}
use Rattle.plan_meaning.specs.declared.forecast.Forecast.{Forecast}
use Rattle.plan_meaning.specs.declared.plan.Plan.{Plan}
use Rattle.plan_cells.specs.Cells.{are_empty, cells_of, separator_of}
use Rattle.plan_cells.specs.Lines.{NumberedLine, text_lines}
use Rattle.plan_cells.specs.Signs.{sign_fault}
use Rattle.plan_forecast.specs.declared.fault.ForecastFault.{ForecastFault}
use Rattle.plan_forecast.specs.declared.fault.ForecastFault.TheVariants.{NoLine, TooLong}
use Rattle.plan_forecast.specs.declared.table.Table.{Table}
use Rattle.plan_forecast.specs.Columns.{forecast_at}
use Rattle.plan_forecast.specs.Headings.{headings_at}
use Rattle.plan_forecast.specs.Rows.{row_at}
use Rattle.plan_forecast.specs.Steps.{◌>>=◌, at_line, each, lifted}

-- nothing was read
abbrev pub no_table : Table
no_table = record { separator = None; headings = []; step = 0; rows = []; line = 0 }

-- the texts of a line's cells, whose signs may stand
unfoldable pub line_cells : ℕ → ℕ → List ℕ → Result (List (List ℕ)) ForecastFault
line_cells k separator bytes =
    elim (sign_fault bytes) [ None ↦ lifted k (cells_of separator bytes) | Some e ↦ Err (at_line k e) ]

-- the first line
unfoldable pub first_line_at : ℕ → Plan → Table → ℕ → List (List ℕ) → Result Table ForecastFault
first_line_at k p t separator cells =
    headings_at k p separator cells >>= λ hs. Ok (record t { separator = Some separator; headings = hs })

-- what the cells of a line say, of which not all are empty
abbrev pub cells_at : ℕ → Plan → Table → ℕ → List (List ℕ) → Result Table ForecastFault
cells_at k p t separator cells =
    elim t.separator [ None ↦ first_line_at k p t separator cells | Some s ↦ row_at p.day k t cells ]

-- what parts the cells of a line: what the first line tells, or would tell
abbrev pub separator_at : Table → List ℕ → ℕ
separator_at t bytes = elim t.separator [ None ↦ separator_of bytes | Some s ↦ s ]

unfoldable pub line_of_cells : ℕ → Plan → Table → ℕ → List (List ℕ) → Result Table ForecastFault
line_of_cells k p t separator cells = if are_empty cells then Ok t else cells_at k p t separator cells

-- a line
unfoldable pub line_at : Plan → Table → NumberedLine → Result Table ForecastFault
line_at p t l =
    line_cells l.number (separator_at t l.bytes) l.bytes
    >>= λ cells. line_of_cells l.number p t (separator_at t l.bytes) cells

-- all lines
abbrev pub table_of : Plan → List ℕ → Result Table ForecastFault
table_of p text = each (line_at p) no_table (text_lines text)

-- the forecast of a table with a first line
unfoldable pub finish : Plan → Table → Result Forecast ForecastFault
finish p t = elim t.separator [ None ↦ Err NoLine | Some s ↦ forecast_at p t ]

-- the forecast that a text says for a plan, or the text's first fault
unfoldable pub forecast_of : Plan → List ℕ → Result Forecast ForecastFault
forecast_of p text = if nat_lt 1048576 (length text) then Err TooLong else (table_of p text >>= finish p)
