-- What all rows say, column by column.
use Rattle.std.specs.Prelude.{ℕ, ◌+◌, ◌*◌, nat_eq, nat_lt, List, [], ◌∷◌, ◌++◌, length, map, position, slice_index_or, Option, None, Some, Result, Ok, Err, if◌then◌else◌}
use Rattle.plan_meaning.specs.declared.forecast.Column.{Column}
use Rattle.plan_meaning.specs.declared.forecast.Forecast.{Forecast}
use Rattle.plan_meaning.specs.declared.plan.Need.{Need}
use Rattle.plan_meaning.specs.declared.plan.Plan.{Plan}
use Rattle.plan_meaning.specs.declared.plan.PlanDay.{PlanDay}
use Rattle.plan_meaning.specs.Times.{day_length}
use Rattle.plan_forecast.specs.declared.fault.ForecastFault.{ForecastFault}
use Rattle.plan_forecast.specs.declared.fault.ForecastFault.TheVariants.{Above, NoRow, Row}
use Rattle.plan_forecast.specs.declared.fault.RowFault.TheVariants.{Count}
use Rattle.plan_forecast.specs.declared.table.Kind.{Kind}
use Rattle.plan_forecast.specs.declared.table.Kind.TheVariants as kind
use Rattle.plan_forecast.specs.declared.table.Table.{Table}
use Rattle.plan_forecast.specs.Headings.{asks}
use Rattle.plan_forecast.specs.Rows.{step_minute}
use Rattle.plan_forecast.specs.Steps.{◌>>=◌, each, unless}

-- the numbers at a place of each row
abbrev pub numbers_of : ℕ → List (List ℕ) → List ℕ
numbers_of place rows = map (λ (ns : List ℕ). slice_index_or ns place 0) rows

-- the numbers under the heading that asks this, where one does
abbrev pub said : Table → ℕ → Kind → Option (List ℕ)
said t code k = elim (position (asks code k) t.headings) [ None ↦ None | Some place ↦ Some (numbers_of place t.rows) ]

abbrev pub or_none : Option (List ℕ) → List ℕ
or_none None = []
or_none (Some ns) = ns

-- what is asked of the code of a need line
abbrev pub column_of : Table → ℕ → Column
column_of t code = record {
  need = or_none (said t code kind.Need);
  least = said t code kind.Least;
  most = said t code kind.Most;
}

-- the first step, from one on, at which more must be there than may
abbrev pub first_above : PlanDay → ℕ → ℕ → ℕ → List ℕ → List ℕ → Option ForecastFault
first_above d step code k [] ms = None
first_above d step code k (l ∷ ls) ms =
    if nat_lt (slice_index_or ms k 64) l
    then Some (Above code (step_minute d step k) l (slice_index_or ms k 64))
    else first_above d step code (k + 1) ls ms

abbrev pub above : PlanDay → ℕ → ℕ → Option (List ℕ) → Option (List ℕ) → Option ForecastFault
above d step code (Some ls) (Some ms) = first_above d step code 0 ls ms
above d step code _ _ = None

-- one more column, of which no `least` is above `most`
unfoldable pub column_at : PlanDay → ℕ → Table → List Column → Need → Result (List Column) ForecastFault
column_at d step t cs n =
    unless (above d step n.code (said t n.code kind.Least) (said t n.code kind.Most))
    (cs ++ column_of t n.code ∷ [])

-- the columns of all need lines
abbrev pub columns_at : PlanDay → ℕ → Table → List Need → Result (List Column) ForecastFault
columns_at d step t needs = each (column_at d step t) [] needs

-- how long a step is: one row alone is the whole day
abbrev pub whole_step : PlanDay → Table → ℕ
whole_step d t = if nat_eq (length t.rows) 1 then day_length d else t.step

-- rows for the whole day
unfoldable pub step_of : PlanDay → Table → Result ℕ ForecastFault
step_of d t =
    if nat_eq (length t.rows) 0 then Err NoRow
    else (if nat_eq (length t.rows * whole_step d t) (day_length d) then Ok (whole_step d t)
    else Err (Row t.line (Count (length t.rows) (whole_step d t) (day_length d))))

-- the forecast of all rows
unfoldable pub forecast_at : Plan → Table → Result Forecast ForecastFault
forecast_at p t = do
  step ← step_of p.day t
  cs ← columns_at p.day step t p.needs
  Ok (record { step = step; columns = cs })
