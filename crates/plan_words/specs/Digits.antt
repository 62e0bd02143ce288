-- Hours and minutes in digits.
use Rattle.std.specs.Prelude.{ℕ, ◌+◌, ◌-◌, ◌*◌, Bool, ◌&&◌, ◌||◌, not, nat_eq, nat_lt, Option, None, Some, List, [], ◌∷◌, if◌then◌else◌}
use Rattle.text_lines.specs.Numbers.{is_digit}

-- the number that two digits say
abbrev pub two : ℕ → ℕ → ℕ
two tens ones = 10 * (tens - 48) + (ones - 48)

-- two digits, a colon and two digits
abbrev pub is_clock : ℕ → ℕ → ℕ → ℕ → ℕ → Bool
is_clock g h colon a b = nat_eq colon 58 && is_digit g && is_digit h && is_digit a && is_digit b

-- the minutes that five such bytes say, of which the last two are below 60
unfoldable pub minutes_at : ℕ → ℕ → ℕ → ℕ → ℕ → Option ℕ
minutes_at g h colon a b =
    if not (is_clock g h colon a b) || nat_lt 59 (two a b) then None else Some (60 * two g h + two a b)

-- `H:MM` or `HH:MM`
unfoldable pub clock_of : List ℕ → Option ℕ
clock_of (h ∷ colon ∷ a ∷ b ∷ []) = minutes_at 48 h colon a b
clock_of (g ∷ h ∷ colon ∷ a ∷ b ∷ []) = minutes_at g h colon a b
clock_of _ = None
