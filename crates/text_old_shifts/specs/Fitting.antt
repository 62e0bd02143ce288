-- The shifts whose words have the day's length.
use Rattle.std.specs.Prelude.{ℕ, Bool, nat_eq, filter, length, List}
use Rattle.model_rosters.specs.declared.instance.Shift.{Shift}

-- the word has a letter for each of so many periods
abbrev pub fits : ℕ → Shift → Bool
fits periods s = nat_eq (length s.word) periods

-- those whose words have
abbrev pub fitting : ℕ → List Shift → List Shift
fitting periods shifts = filter (fits periods) shifts
