-- What a row says.
use Rattle.std.specs.Prelude.{ℕ, Bool, ◌+◌, ◌-◌, ◌*◌, ◌%◌, ◌&&◌, not, nat_eq, nat_le, nat_lt, List, [], ◌∷◌, ◌++◌, codes as text, drop, length, take, Option, None, Some, Result, Ok, Err, if◌then◌else◌}
use Rattle.std.specs.Str.{bytes_eq}
use Rattle.plan_meaning.specs.declared.plan.PlanDay.{PlanDay}
use Rattle.plan_meaning.specs.Times.{begin_minute, clock_day, day_length, shown_behind}
use Rattle.plan_words.specs.declared.fault.WordFault.{WordFault}
use Rattle.plan_words.specs.declared.fault.WordFault.TheVariants as word
use Rattle.plan_words.specs.Numbers.{number_at}
use Rattle.plan_words.specs.TimeWords.{clock_time}
use Rattle.plan_forecast.specs.declared.fault.ForecastFault.{ForecastFault}
use Rattle.plan_forecast.specs.declared.fault.ForecastFault.TheVariants.{Row}
use Rattle.plan_forecast.specs.declared.fault.RowFault.{RowFault}
use Rattle.plan_forecast.specs.declared.fault.RowFault.TheVariants.{Behind, First, NoHeading, NoNumber, NoTime, NoWhole, Other, Outside, Steps}
use Rattle.plan_forecast.specs.declared.table.Asked.{Asked}
use Rattle.plan_forecast.specs.declared.table.Table.{Table}
use Rattle.plan_forecast.specs.Headings.{first_cell}
use Rattle.plan_forecast.specs.Steps.{◌>>=◌}

-- ---- times

-- a time without seconds, where they are `:00`
unfoldable pub without_seconds : List ℕ → List ℕ
without_seconds w =
    if nat_lt 5 (length w) && bytes_eq (drop (length w - 3) w) (text ":00") then take (length w - 3) w else w

abbrev pub time_or : ℕ → List ℕ → Result ℕ WordFault → Result ℕ ForecastFault
time_or k cell (Ok minute) = Ok minute
time_or k cell (Err e) = Err (Row k (NoTime cell))

-- the minute behind midnight that a cell says
unfoldable pub minute_at : ℕ → List ℕ → Result ℕ ForecastFault
minute_at k cell = time_or k cell (clock_time (without_seconds cell))

-- ---- steps

-- how long steps are, which the second row tells by how far behind the day's begin it is
abbrev pub step_by : Table → ℕ → ℕ
step_by t shown = if nat_lt (length t.rows) 2 then shown else t.step

-- a step is some whole periods
abbrev pub is_step : PlanDay → ℕ → Bool
is_step d step = nat_lt 0 step && nat_eq (step % d.minutes) 0

-- the minute behind midnight at which a step begins
abbrev pub step_minute : PlanDay → ℕ → ℕ → ℕ
step_minute d step passed = (begin_minute d + passed * step) % clock_day

-- a row behind others, whose time the clock first shows so far behind the day's begin, by steps of so many minutes
unfoldable pub later_at : PlanDay → ℕ → Table → List ℕ → ℕ → ℕ → Result ℕ ForecastFault
later_at d k t cell shown step =
    if nat_lt (length t.rows) 2 && not (is_step d step) then Err (Row k (Steps step d.minutes))
    else (if nat_le (day_length d) (length t.rows * step) then Err (Row k (Behind cell (begin_minute d + day_length d)))
    else (if not (nat_eq shown (length t.rows * step % clock_day))
    then Err (Row k (Other cell (step_minute d step (length t.rows)) step))
    else Ok step))

-- how long steps are, as a row tells whose time the clock first shows so far behind the day's begin
unfoldable pub step_at : PlanDay → ℕ → Table → List ℕ → ℕ → Result ℕ ForecastFault
step_at d k t cell shown =
    if nat_lt 0 (length t.rows) then later_at d k t cell shown (step_by t shown)
    else (if nat_eq shown 0 then Ok 0 else Err (Row k (First cell (begin_minute d))))

-- ---- numbers

-- why a cell is no number of employees
abbrev pub no_number : List ℕ → WordFault → RowFault
no_number cell word.NoNumber = NoWhole cell
no_number cell _ = Outside cell

abbrev pub number_or : ℕ → List ℕ → Result ℕ WordFault → Result ℕ ForecastFault
number_or k cell (Ok n) = Ok n
number_or k cell (Err e) = Err (Row k (no_number cell e))

-- the number of a cell under a heading, in a row of this time
unfoldable pub asked_at : ℕ → ℕ → Asked → List ℕ → Result ℕ ForecastFault
asked_at k minute a cell =
    if nat_eq (length cell) 0 then Err (Row k (NoNumber minute a.code a.kind))
    else number_or k cell (number_at 0 64 cell)

-- a cell under no heading is empty
unfoldable pub empty_at : ℕ → List ℕ → Result ℕ ForecastFault
empty_at k cell = if nat_eq (length cell) 0 then Ok 0 else Err (Row k (NoHeading cell))

unfoldable pub cell_at : ℕ → ℕ → Option Asked → List ℕ → Result ℕ ForecastFault
cell_at k minute None cell = empty_at k cell
cell_at k minute (Some a) cell = asked_at k minute a cell

-- the first cell behind those under headings that is not empty
abbrev pub empty_cells : ℕ → List ℕ → List (List ℕ) → Result (List ℕ) ForecastFault
empty_cells k ns [] = Ok ns
empty_cells k ns (c ∷ cs) = empty_at k c >>= λ _. empty_cells k ns cs

-- a number for each heading, 0 under an empty one, behind those that were read
abbrev pub numbers_at : ℕ → ℕ → List ℕ → List (Option Asked) → List (List ℕ) → Result (List ℕ) ForecastFault
numbers_at k minute ns [] cs = empty_cells k ns cs
numbers_at k minute ns (h ∷ hs) cs =
    cell_at k minute h (first_cell cs) >>= λ n. numbers_at k minute (ns ++ n ∷ []) hs (drop 1 cs)

-- ---- rows

-- one more row of numbers, with what it tells of steps
abbrev pub with_row : ℕ → Table → ℕ → List ℕ → Table
with_row k t step ns = record t { step = step; rows = t.rows ++ ns ∷ []; line = k }

-- a row of cells
unfoldable pub row_at : PlanDay → ℕ → Table → List (List ℕ) → Result Table ForecastFault
row_at d k t cells = do
  minute ← minute_at k (first_cell cells)
  step ← step_at d k t (first_cell cells) (shown_behind d minute)
  ns ← numbers_at k minute [] t.headings (drop 1 cells)
  Ok (with_row k t step ns)
