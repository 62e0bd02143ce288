-- Times of the day: read, and written for each period.
use Rattle.std.specs.Prelude.{ℕ, ◌+◌, ◌-◌, ◌*◌, ◌/◌, ◌%◌, Bool, ◌&&◌, ◌||◌, List, [], ◌∷◌, ◌++◌, codes, nat_eq, nat_lt, Result, Ok, Err, if◌then◌else◌}
use Rattle.std.specs.Fmt.{decimal}
use Rattle.text_lines.specs.Fields.{number_at}
use Rattle.text_lines.specs.Numbers.{is_digit}
use Rattle.page_labels.specs.declared.clock.Clock.{Clock}
use Rattle.page_labels.specs.declared.fault.LabelFault.{LabelFault}
use Rattle.page_labels.specs.declared.fault.LabelFault.TheVariants.{BadNumber, OutOfRange}
use Rattle.page_labels.specs.Steps.{◌>>=◌}

-- the number that two digits say
abbrev pub two : ℕ → ℕ → ℕ
two tens ones = 10 * (tens - 48) + (ones - 48)

-- two digits, a colon and two digits
abbrev pub is_time : ℕ → ℕ → ℕ → ℕ → ℕ → Bool
is_time g h colon a b = nat_eq colon 58 && is_digit g && is_digit h && is_digit a && is_digit b

-- the minute of the day that the five bytes of a time say
unfoldable pub minute_at : ℕ → ℕ → ℕ → ℕ → ℕ → ℕ → Result ℕ LabelFault
minute_at k g h colon a b =
    if is_time g h colon a b
    then (if nat_lt 23 (two g h) || nat_lt 59 (two a b) then Err (OutOfRange k) else Ok
    (60 * two g h + two a b))
    else Err (BadNumber k)

-- a time, `H:MM` or `HH:MM`, as the minute of the day
unfoldable pub time_at : ℕ → List ℕ → Result ℕ LabelFault
time_at k (h ∷ colon ∷ a ∷ b ∷ []) = minute_at k 48 h colon a b
time_at k (g ∷ h ∷ colon ∷ a ∷ b ∷ []) = minute_at k g h colon a b
time_at k _ = Err (BadNumber k)

-- how many minutes a period has
abbrev pub minutes_at : ℕ → List ℕ → Result ℕ LabelFault
minutes_at k w = number_at (BadNumber k) (OutOfRange k) 1 1440 w

unfoldable pub clock_of : ℕ → List ℕ → List ℕ → Result Clock LabelFault
clock_of k w v = do
  begin ← time_at k w
  minutes ← minutes_at k v
  Ok (record { begin = begin; minutes = minutes })

-- a number below 100 by two digits
unfoldable pub two_text : ℕ → List ℕ
two_text n = (48 + n / 10) ∷ (48 + n % 10) ∷ []

-- hours and minutes
unfoldable pub hour_text : ℕ → ℕ → List ℕ
hour_text hours minutes = decimal hours ++ (codes ":" ++ two_text minutes)

-- how many days have passed, where some have
unfoldable pub day_text : ℕ → List ℕ
day_text days = if nat_eq days 0 then [] else codes " +" ++ decimal days

-- the time behind so many periods
unfoldable pub time_text : Clock → ℕ → List ℕ
time_text c passed =
    hour_text ((c.begin + c.minutes * passed) / 60 % 24) ((c.begin + c.minutes * passed) % 60)
    ++ day_text ((c.begin + c.minutes * passed) / 1440)

-- how long so many periods are
abbrev pub duration_text : Clock → ℕ → List ℕ
duration_text c periods = hour_text (c.minutes * periods / 60) (c.minutes * periods % 60)
