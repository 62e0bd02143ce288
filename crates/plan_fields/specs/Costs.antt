-- What a period of a code costs.
use Rattle.std.specs.Prelude.{ℕ, zero, suc, ◌+◌, ◌-◌, ◌*◌, ◌/◌, ◌^◌, Bool, ◌&&◌, List, [], ◌∷◌, None, Option, Some, min, nat_eq, nat_le, nat_lt, if◌then◌else◌}
use Rattle.plan_meaning.specs.Times.{begin_behind, day_length, end_behind}
use Rattle.plan_meaning.specs.declared.plan.Extra.{Extra}
use Rattle.plan_meaning.specs.declared.plan.PlanDay.{PlanDay}
use Rattle.plan_meaning.specs.declared.plan.Times.{Times}

-- a period that begins at this moment lies between these times
abbrev pub lies_within : PlanDay → Times → ℕ → Bool
lies_within d t m = nat_le (begin_behind d t.from) m && nat_le (m + d.minutes) (end_behind d t.to)

-- how much more by a line an hour of the code costs then
abbrev pub extra_hour : PlanDay → ℕ → ℕ → Extra → ℕ
extra_hour d code m e = if nat_eq e.code code && lies_within d e.times m then e.hour else 0

-- ... and by all lines together
abbrev pub extras_hour : PlanDay → ℕ → ℕ → List Extra → ℕ
extras_hour d code m [] = 0
extras_hour d code m (e ∷ es) = extra_hour d code m e + extras_hour d code m es

-- what a period costs that begins then, where an hour costs so much and more by some lines
abbrev pub period_units : PlanDay → List Extra → ℕ → ℕ → ℕ → ℕ
period_units d es code hour m = (hour + extras_hour d code m es) * d.minutes / 60

-- these units, where a period may not cost so many; else those that follow
abbrev pub too_costly : ℕ → Option ℕ → Option ℕ
too_costly units later = if nat_lt 10000 units then Some units else later

-- what the first of so many periods costs that costs too many units, behind so many others
abbrev pub costly_from : PlanDay → List Extra → ℕ → ℕ → ℕ → ℕ → Option ℕ
costly_from d es code hour passed zero = None
costly_from d es code hour passed (suc k) =
    too_costly (period_units d es code hour (passed * d.minutes)) (costly_from d es code hour (passed + 1) k)

-- ... of all periods of the day
abbrev pub costly_period : PlanDay → List Extra → ℕ → ℕ → Option ℕ
costly_period d es code hour = costly_from d es code hour 0 (day_length d / d.minutes)

-- how many units are told
abbrev pub told : ℕ → ℕ
told units = min units (2 ^ 64 - 1)
