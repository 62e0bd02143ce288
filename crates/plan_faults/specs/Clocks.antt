-- Lengths and times.
use Rattle.std.specs.Prelude.{ℕ, ◌+◌, ◌-◌, ◌/◌, ◌%◌, List, [], ◌∷◌, ◌++◌, codes, nat_le, nat_lt, if◌then◌else◌}
use Rattle.std.specs.Fmt.{decimal}

-- a number below 100 by two digits
unfoldable pub two_text : ℕ → List ℕ
two_text n = (48 + n / 10) ∷ (48 + n % 10) ∷ []

-- minutes as hours and minutes
abbrev pub clock_text : ℕ → List ℕ
clock_text minutes = decimal (minutes / 60) ++ (codes ":" ++ two_text (minutes % 60))

-- a time of the next day
abbrev pub next_day_text : ℕ → List ℕ
next_day_text minutes = clock_text (minutes - 1440) ++ codes "+1"

-- a time behind the midnight before the day, as a begin
unfoldable pub begin_text : ℕ → List ℕ
begin_text minutes = if nat_lt minutes 1440 then clock_text minutes else next_day_text minutes

-- ... and as an end, which at midnight is that of the day before
unfoldable pub end_text : ℕ → List ℕ
end_text minutes = if nat_le minutes 1440 then clock_text minutes else next_day_text minutes
