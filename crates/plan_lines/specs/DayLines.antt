-- What the title line and the day line say.
use Rattle.std.specs.Prelude.{ℕ, List, [], ◌∷◌, None, Option, Some, Result, Ok, Err, is_some, length, nat_eq, nat_lt, if◌then◌else◌}
use Rattle.plan_faults.specs.declared.fault.Kind.TheVariants as kind
use Rattle.plan_faults.specs.declared.fault.LineFault.{LineFault}
use Rattle.plan_faults.specs.declared.fault.LineFault.TheVariants as line
use Rattle.plan_faults.specs.declared.fault.StandFault.TheVariants.{Second}
use Rattle.plan_fields.specs.Names.{name_at}
use Rattle.plan_fields.specs.Steps.{◌>>=◌, quoted}
use Rattle.plan_meaning.specs.declared.plan.PlanDay.{PlanDay}
use Rattle.plan_words.specs.Days.{day_of}
use Rattle.plan_words.specs.Numbers.{number_at}
use Rattle.plan_words.specs.TimeWords.{clock_time, time_at, time_or}
use Rattle.plan_words.specs.declared.fault.DayFault.{DayFault}

-- the title, of which there is one
unfoldable pub title_line : List ℕ → List (List ℕ) → Result (List ℕ) LineFault
title_line title ws =
    if nat_lt 0 (length title) then Err (line.Stand (Second kind.Title))
    else (if nat_eq (length ws) 0 then Err (line.Count 0 1 None) else name_at 60 ws)

-- a day of whole periods, or why these two words and a number make none
abbrev pub day_or : List ℕ → List ℕ → Result PlanDay DayFault → Result PlanDay LineFault
day_or w v (Ok d) = Ok d
day_or w v (Err e) = Err (line.Day w v e)

-- the day of its begin, its end and the minutes of a period
unfoldable pub day_words : List ℕ → List ℕ → List ℕ → Result PlanDay LineFault
day_words w v u =
    quoted w (clock_time w) >>= λ begin. quoted v (time_or (time_at v)) >>= λ end. quoted u (number_at 1 720 u)
    >>= λ minutes. day_or w v (day_of (record { begin = begin; end = end; minutes = minutes }))

-- the day, of which there is one
abbrev pub new_day : List (List ℕ) → Result (Option PlanDay) LineFault
new_day (w ∷ v ∷ u ∷ []) = day_words w v u >>= λ d. Ok (Some d)
new_day ws = Err (line.Count (length ws) 3 (Some 3))

unfoldable pub day_line : Option PlanDay → List (List ℕ) → Result (Option PlanDay) LineFault
day_line day ws = if is_some day then Err (line.Stand (Second kind.Day)) else new_day ws
