-- Times of the day.
use Rattle.std.specs.Prelude.{ℕ, ◌+◌, ◌%◌, Bool, true, false, ◌&&◌, not, nat_eq, nat_lt, nat_le, Option, None, Some, List, [], ◌∷◌, Result, Ok, Err, if◌then◌else◌}
use Rattle.plan_meaning.specs.declared.plan.PlanDay.{PlanDay}
use Rattle.plan_meaning.specs.declared.plan.Time.{Time}
use Rattle.plan_meaning.specs.Times.{begin_behind, begin_minute, day_length, end_behind}
use Rattle.plan_words.specs.declared.fault.WordFault.{WordFault}
use Rattle.plan_words.specs.declared.fault.WordFault.TheVariants.{NoBegin, NoTime, OutsideDay}
use Rattle.plan_words.specs.Digits.{minutes_at}

-- minutes to 24:00 as a time
unfoldable pub as_time : Bool → Option ℕ → Option Time
as_time next None = None
as_time next (Some m) = if nat_le m 1440 then Some (record { minute = m; next_day = next }) else None

-- ... as one of the next day, where these two bytes are `+1`
unfoldable pub marked_time : ℕ → ℕ → Option ℕ → Option Time
marked_time plus one minute = if nat_eq plus 43 && nat_eq one 49 then as_time true minute else None

-- the time that a word says
unfoldable pub time_at : List ℕ → Option Time
time_at (h ∷ colon ∷ a ∷ b ∷ []) = as_time false (minutes_at 48 h colon a b)
time_at (g ∷ h ∷ colon ∷ a ∷ b ∷ []) = as_time false (minutes_at g h colon a b)
time_at (h ∷ colon ∷ a ∷ b ∷ plus ∷ one ∷ []) = marked_time plus one (minutes_at 48 h colon a b)
time_at (g ∷ h ∷ colon ∷ a ∷ b ∷ plus ∷ one ∷ []) = marked_time plus one (minutes_at g h colon a b)
time_at _ = None

-- a time, or the fault of a word that is none
unfoldable pub time_or : Option Time → Result Time WordFault
time_or None = Err NoTime
time_or (Some t) = Ok t

-- a time of the clock, without a next day's mark
abbrev pub unmarked : Time → Result ℕ WordFault
unmarked t = if t.next_day then Err NoTime else Ok t.minute

abbrev pub clock_or : Option Time → Result ℕ WordFault
clock_or None = Err NoTime
clock_or (Some t) = unmarked t

unfoldable pub clock_time : List ℕ → Result ℕ WordFault
clock_time w = clock_or (time_at w)

-- the day, behind midnight
abbrev pub outside_day : PlanDay → WordFault
outside_day d = OutsideDay (begin_minute d) (begin_minute d + day_length d)

-- a time at which a period of the day begins
abbrev pub begin_or : PlanDay → Option Time → Result Time WordFault
begin_or d None = Err NoTime
begin_or d (Some t) =
    if nat_le (day_length d) (begin_behind d t) then Err (outside_day d)
    else (if not (nat_eq (begin_behind d t % d.minutes) 0) then Err (NoBegin d.minutes (begin_minute d)) else Ok t)

-- the time that a word says, at which a period of the day begins
unfoldable pub begin_at : PlanDay → List ℕ → Result Time WordFault
begin_at d w = begin_or d (time_at w)

-- a time at which a period of the day ends
abbrev pub end_or : PlanDay → Option Time → Result Time WordFault
end_or d None = Err NoTime
end_or d (Some t) =
    if nat_lt (day_length d) (end_behind d t) then Err (outside_day d)
    else (if not (nat_eq (end_behind d t % d.minutes) 0) then Err (NoBegin d.minutes (begin_minute d)) else Ok t)

-- the time that a word says, at which a period of the day ends
unfoldable pub end_at : PlanDay → List ℕ → Result Time WordFault
end_at d w = end_or d (time_at w)
