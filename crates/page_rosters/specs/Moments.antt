-- When periods begin and end, and how long they are.
use Rattle.std.specs.Prelude.{ℕ, ◌-◌, Option, None, Some, List, codes}
use Rattle.std.specs.Fmt.{decimal}
use Rattle.page_labels.specs.Clocks.{duration_text, time_text}
use Rattle.page_labels.specs.declared.clock.Clock.{Clock}
use Rattle.model_shift_figures.specs.declared.stretch.Stretch.{Stretch}

-- the time behind so many periods, or without a clock the number of a period
abbrev pub moment : Option Clock → ℕ → ℕ → List ℕ
moment None period passed = decimal period
moment (Some c) period passed = time_text c passed

abbrev pub begin_text : Option Clock → ℕ → List ℕ
begin_text clock period = moment clock period (period - 1)

abbrev pub end_text : Option Clock → ℕ → List ℕ
end_text clock period = moment clock period period

-- when the work of a stretch begins and ends
abbrev pub stretch_begin : Option Clock → Option Stretch → List ℕ
stretch_begin clock None = codes "-"
stretch_begin clock (Some s) = begin_text clock s.first

abbrev pub stretch_end : Option Clock → Option Stretch → List ℕ
stretch_end clock None = codes "-"
stretch_end clock (Some s) = end_text clock s.last

-- how long so many periods are, or without a clock how many they are
abbrev pub duration : Option Clock → ℕ → List ℕ
duration None periods = decimal periods
duration (Some c) periods = duration_text c periods
