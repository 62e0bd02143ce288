-- Days of the calendar: how one is read and written, and which one follows.
use Rattle.std.specs.Prelude.{ℕ, zero, suc, ◌+◌, ◌*◌, ◌/◌, ◌%◌, Bool, ◌&&◌, ◌||◌, List, ◌++◌, Option, None, Some, length, min, take, drop, slice_index, nat_eq, nat_lt, pos, if◌then◌else◌}
use Rattle.std.specs.List.{list_all}
use Rattle.jiff_core.specs.Calendar.{days_in_month}
use Rattle.page_labels.specs.Clocks.{two, two_text}
use Rattle.text_lines.specs.Numbers.{is_digit}
use Rattle.page_csv.specs.declared.roster_calendar.date.Date.{Date}

-- the days of a month
abbrev pub month_days : ℕ → ℕ → ℕ
month_days y m = days_in_month (pos y) m

-- the year behind a year, or the last one that there is
abbrev pub next_year : ℕ → ℕ
next_year y = min (y + 1) 4294967295

-- the next day
unfoldable pub next_day : Date → Date
next_day d =
    if nat_lt d.day (month_days d.year d.month) then record { year = d.year; month = d.month; day = d.day + 1 }
    else (if nat_lt d.month 12 then record { year = d.year; month = d.month + 1; day = 1 }
    else record { year = next_year d.year; month = 1; day = 1 })

-- the day that many days later
abbrev pub day_after : ℕ → Date → Date
day_after zero d = d
day_after (suc n) d = next_day (day_after n d)

-- a year by its last four digits
unfoldable pub year_text : ℕ → List ℕ
year_text y = two_text (y / 100 % 100) ++ two_text (y % 100)

-- a day, as 20260131
unfoldable pub date_text : Date → List ℕ
date_text d = year_text d.year ++ two_text d.month ++ two_text d.day

-- the number that two digits of a text say, from a place on
abbrev pub two_at : List ℕ → ℕ → ℕ
two_at text k = two (slice_index text k) (slice_index text (k + 1))

-- ten bytes are digits, and hyphens behind the year and the month
abbrev pub has_form : List ℕ → Bool
has_form text =
    nat_eq (slice_index text 4) 45 && nat_eq (slice_index text 7) 45 && list_all is_digit (take 4 text)
    && list_all is_digit (take 2 (drop 5 text)) && list_all is_digit (drop 8 text)

-- the day of a year from 1 to 9998, where the calendar has it
unfoldable pub day_of : ℕ → ℕ → ℕ → Option Date
day_of y m d =
    if nat_lt y 1 || nat_lt 9998 y || nat_lt m 1 || nat_lt 12 m then None
    else (if nat_lt d 1 || nat_lt (month_days y m) d then None
    else Some (record { year = y; month = m; day = d }))

-- the day that a text says, as 2026-01-31
unfoldable pub date_of : List ℕ → Option Date
date_of text =
    if nat_eq (length text) 10
    then (if has_form text
    then day_of (100 * two_at text 0 + two_at text 2) (two_at text 5) (two_at text 8) else None)
    else None
