-- The times that stand on the axes of the charts.
use Rattle.std.specs.Prelude.{ℕ, ◌+◌, ◌*◌, ◌/◌, ◌%◌, Bool, ◌&&◌, ◌||◌, Option, None, Some, List, [], ◌∷◌, ◌++◌, map, max, nat_eq, nat_le, nat_lt, if◌then◌else◌}
use Rattle.page_labels.specs.Clocks.{time_text}
use Rattle.page_labels.specs.declared.clock.Clock.{Clock}
use Rattle.page_parts.specs.Elements.{places}

-- how many minutes a period has, and at least one
abbrev pub minutes_of : Clock → ℕ
minutes_of c = max c.minutes 1

-- the last period ends at midnight or behind it, so that ` +1` stands behind some times
abbrev pub is_late : Clock → ℕ → Bool
is_late c periods = nat_le 1440 (c.begin + c.minutes * periods)

-- at every how many of so many periods a time has room: 40 pixels, and 48 for times with ` +1`
abbrev pub plain_step : ℕ → ℕ
plain_step periods = if nat_lt periods 19 then 1 else (if nat_lt periods 38 then 2 else 4)

abbrev pub late_step : ℕ → ℕ
late_step periods = if nat_lt periods 31 then 2 else (if nat_lt periods 62 then 4 else 8)

unfoldable pub step_at : Clock → ℕ → ℕ
step_at c periods = if is_late c periods then late_step periods else plain_step periods

-- whole hours begin periods, and have room, where not each period has a time
abbrev pub is_hourly : Clock → ℕ → Bool
is_hourly c periods =
    nat_lt 1 (step_at c periods) && nat_eq (60 % minutes_of c) 0 && nat_eq (c.begin % minutes_of c) 0
    && nat_le (step_at c periods) (60 / minutes_of c) && nat_lt (60 / minutes_of c) 25

-- the period behind so many begins with a whole hour
abbrev pub is_hour : Clock → ℕ → Bool
is_hour c place = nat_eq ((c.begin + c.minutes * place) % 60) 0

-- a time stands where the period behind so many begins: at whole hours, or at every so many periods
abbrev pub is_regular : Clock → ℕ → ℕ → Bool
is_regular c periods place =
    if is_hourly c periods then is_hour c place else nat_eq (place % step_at c periods) 0

-- the same, where the first and the last time leave room; the first one stands there in any case
abbrev pub is_shown : Clock → ℕ → ℕ → Bool
is_shown c periods place =
    nat_eq place 0
    || (is_regular c periods place && nat_le (step_at c periods) place
    && nat_le (place + step_at c periods) periods)

-- the time where the period behind so many begins, or nothing
unfoldable pub axis_time : Clock → ℕ → ℕ → List ℕ
axis_time c periods place = if is_shown c periods place then time_text c place else []

-- for each period its time or nothing, and behind them when the last one ends; without a clock none at all
abbrev pub axis_times : Option Clock → ℕ → List (List ℕ)
axis_times None periods = []
axis_times (Some c) periods = map (axis_time c periods) (places periods) ++ time_text c periods ∷ []
