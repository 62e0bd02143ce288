-- Times by the clock, as minutes behind the day's begin.
use Rattle.std.specs.Prelude.{ℕ, zero, suc, ◌≡◌, ◌≤◌, ◌+◌, ◌-◌, ◌*◌, ◌/◌, ◌%◌, cond, Option, None, Some, List, length}
use Rattle.plan_meaning.specs.declared.plan.Lengths.{Lengths}
use Rattle.plan_meaning.specs.declared.plan.Plan.{Plan}
use Rattle.plan_meaning.specs.declared.plan.PlanDay.{PlanDay}
use Rattle.plan_meaning.specs.declared.plan.Time.{Time}
use Rattle.plan_meaning.specs.declared.plan.Times.{Times}

-- the minutes from one midnight to the next
abbrev pub clock_day : ℕ
clock_day = 1440

-- the minute behind midnight at which the day begins; 24:00 is 0:00
abbrev pub begin_minute : PlanDay → ℕ
begin_minute d = d.begin % clock_day

-- behind so many minutes the clock shows this minute for the first time, from the day's begin on
abbrev pub shown_behind : PlanDay → ℕ → ℕ
shown_behind d minute = (minute + (clock_day - begin_minute d)) % clock_day

-- ... and on the day after the one on which the day begins
abbrev pub shown_next : PlanDay → ℕ → ℕ
shown_next d minute = clock_day + minute - begin_minute d

-- a time as the begin of something: the first one from the day's begin on, or the next day's
abbrev pub begin_behind : PlanDay → Time → ℕ
begin_behind d t = cond t.next_day (shown_next d t.minute) (shown_behind d t.minute)

-- where the clock shows a time at once, it shows it next a day later
abbrev pub behind_begin : ℕ → ℕ
behind_begin zero = clock_day
behind_begin (suc n) = suc n

-- a time as the end of something: the first one behind the day's begin, or the next day's
abbrev pub end_behind : PlanDay → Time → ℕ
end_behind d t = cond t.next_day (shown_next d t.minute) (behind_begin (shown_behind d t.minute))

-- how many minutes the day has
abbrev pub day_length : PlanDay → ℕ
day_length d = end_behind d d.end

-- how many periods it has
abbrev pub periods : Plan → ℕ
periods p = day_length p.day / p.day.minutes

-- how long so many letters last, and so how far behind the day's begin a letter begins behind so many others
abbrev pub moment : Plan → ℕ → ℕ
moment p letters = letters * p.day.minutes

-- the word is as long as these lengths allow
abbrev pub IsAsLong : Plan → Lengths → List ℕ → Type 0
IsAsLong p x w = (x.least ≤ moment p (length w)) × (moment p (length w) ≤ x.greatest)

-- something may begin at this moment
abbrev pub MayBegin : Plan → Option Times → ℕ → Type 0
MayBegin p None m = Unit {0}
MayBegin p (Some t) m = (begin_behind p.day t.from ≤ m) × (m ≤ begin_behind p.day t.to)

-- something may end at this moment
abbrev pub MayEnd : Plan → Option Times → ℕ → Type 0
MayEnd p None m = Unit {0}
MayEnd p (Some t) m = (end_behind p.day t.from ≤ m) × (m ≤ end_behind p.day t.to)

-- by the clock a duty may start at this moment: at a whole multiple of the plan's starts
abbrev pub StartsAt : PlanDay → Option ℕ → ℕ → Type 0
StartsAt d None m = Unit {0}
StartsAt d (Some starts) m = (q : ℕ) × (begin_minute d + m ≡ q * starts)

-- Minutes behind the day's begin, not below the least, at which the clock shows this minute for the first
-- time.
pub record IsFirst (d : PlanDay) (minute least m : ℕ) : Type 0 where
  pub behind : least ≤ m
  pub shown : (begin_minute d + m) % clock_day ≡ minute % clock_day
  pub first : (n : ℕ) → least ≤ n → (begin_minute d + n) % clock_day ≡ minute % clock_day → m ≤ n

-- a time of the first 24 hours is the first one from the day's begin on, and as an end the first one behind
-- it
pub record IsFirstTime (d : PlanDay) (t : Time) : Type 0 where
  pub begin : IsFirst d t.minute 0 (begin_behind d t)
  pub end : IsFirst d t.minute 1 (end_behind d t)
