-- Days by their numbers, as the kit's calendar counts them.
use Rattle.std.specs.Prelude.{ℕ, ◌<◌, ◌≤◌, ℤ, pos}
use Rattle.jiff_core.specs.Calendar.{days_from_civil}
use Rattle.page_csv.specs.roster_calendar.Dates.{month_days}
use Rattle.page_csv.specs.declared.roster_calendar.date.Date.{Date}

-- the calendar has the day, before the last year that there is
pub record IsDay (d : Date) : Type 0 where
  pub year : d.year < 4294967295
  pub month : 1 ≤ d.month
  pub months : d.month ≤ 12
  pub day : 1 ≤ d.day
  pub days : d.day ≤ month_days d.year d.month

-- the number of a day, from 1 January 1970 on
abbrev pub day_number : Date → ℤ
day_number d = days_from_civil (pos d.year) d.month d.day
