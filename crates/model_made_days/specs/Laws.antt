-- What holds of the days of all numbers.
use Rattle.std.specs.Prelude.{ℕ}
use Rattle.model_rosters.specs.SoundInstance.{IsSoundInstance}
use Rattle.model_made_days.specs.Made.{made_instance}

-- the day of each number is sound
abbrev pub EachDayIsSound : Type 0
EachDayIsSound = (number : ℕ) → IsSoundInstance (made_instance number)
