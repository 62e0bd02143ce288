-- Days of whole periods.
use Rattle.std.specs.Prelude.{ℕ, ◌≡◌, ◌≤◌, ◌/◌, ◌%◌, not, nat_eq, nat_lt, Result, Ok, Err, if◌then◌else◌}
use Rattle.plan_meaning.specs.declared.plan.PlanDay.{PlanDay}
use Rattle.plan_meaning.specs.Times.{day_length}
use Rattle.plan_words.specs.declared.fault.DayFault.{DayFault}
use Rattle.plan_words.specs.declared.fault.DayFault.TheVariants.{ManyPeriods, PartDay}

-- 1 to 96 whole periods of 1 to 720 minutes
pub record IsSoundDay (d : PlanDay) : Type 0 where
  pub some : 1 ≤ d.minutes
  pub few : d.minutes ≤ 720
  pub end : d.end.minute ≤ 1440
  pub whole : day_length d % d.minutes ≡ 0
  pub periods : day_length d / d.minutes ≤ 96

-- a day of whole periods, at most 96
unfoldable pub day_of : PlanDay → Result PlanDay DayFault
day_of d =
    if not (nat_eq (day_length d % d.minutes) 0) then Err (PartDay (day_length d) d.minutes)
    else (if nat_lt 96 (day_length d / d.minutes) then Err (ManyPeriods (day_length d / d.minutes) d.minutes)
    else Ok d)
