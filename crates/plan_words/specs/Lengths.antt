-- Lengths of whole periods.
use Rattle.std.specs.Prelude.{ℕ, ◌+◌, ◌-◌, ◌/◌, ◌%◌, Bool, ◌||◌, not, min, nat_eq, nat_lt, Option, None, Some, List, Result, Ok, Err, if◌then◌else◌}
use Rattle.plan_meaning.specs.declared.plan.PlanDay.{PlanDay}
use Rattle.plan_meaning.specs.Times.{day_length}
use Rattle.plan_words.specs.declared.fault.WordFault.{WordFault}
use Rattle.plan_words.specs.declared.fault.WordFault.TheVariants.{NoLength, PartPeriod, Periods}
use Rattle.plan_words.specs.Digits.{clock_of}

-- how many periods a length has at most: those of the day, and of 24 hours
abbrev pub most_periods : PlanDay → ℕ
most_periods d = min (day_length d) 1440 / d.minutes

-- minutes that are whole periods of so many minutes, 1 to `most` of them
unfoldable pub whole_length : ℕ → ℕ → ℕ → Result ℕ WordFault
whole_length minutes most found =
    if not (nat_eq (found % minutes) 0)
    then Err (PartPeriod minutes (found - found % minutes) (found - found % minutes + minutes))
    else (if nat_lt (found / minutes) 1 || nat_lt most (found / minutes) then Err (Periods (found / minutes) most)
    else Ok found)

abbrev pub length_or : PlanDay → Option ℕ → Result ℕ WordFault
length_or d None = Err NoLength
length_or d (Some found) = whole_length d.minutes (most_periods d) found

-- the length that a word says, in minutes
unfoldable pub length_at : PlanDay → List ℕ → Result ℕ WordFault
length_at d w = length_or d (clock_of w)
