-- A roster as an iCalendar text.
use Rattle.std.specs.Prelude.{ℕ, Option, List, [], ◌∷◌, ◌++◌, codes}
use Rattle.model_rosters.specs.declared.instance.Instance.{Instance}
use Rattle.model_rosters.specs.declared.instance.Shift.{Shift}
use Rattle.page_labels.specs.declared.labels.Labels.{Labels}
use Rattle.page_csv.specs.roster_calendar.Events.{events_of, events_or, property}
use Rattle.page_csv.specs.roster_calendar.Folds.{text_of}
use Rattle.page_csv.specs.declared.roster_calendar.setting.Setting.{Setting}

-- the lines before the events
abbrev pub first_lines : List (List ℕ)
first_lines =
    property (codes "BEGIN") (codes "VCALENDAR") ∷ property (codes "VERSION") (codes "2.0")
    ∷ property (codes "PRODID") (codes "-//Lubishon//roster//EN") ∷ []

-- the line behind them
abbrev pub last_lines : List (List ℕ)
last_lines = property (codes "END") (codes "VCALENDAR") ∷ []

-- the lines of a calendar: the events of each shift, by the numbers of the shifts, or of the one with a number
abbrev pub calendar_lines : Instance → Labels → Setting → Option ℕ → List Shift → List (List ℕ)
calendar_lines i d x only shifts = first_lines ++ events_or d x (events_of i d x only shifts) ++ last_lines

-- its text
abbrev pub calendar_of : Instance → Labels → Setting → Option ℕ → List Shift → List ℕ
calendar_of i d x only shifts = text_of (calendar_lines i d x only shifts)
