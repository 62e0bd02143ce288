-- How long a search may take.
use Rattle.std.specs.Prelude.{ℕ, ◌≡◌, ◌≤◌, Option, None, Some}
use Rattle.command_searches.specs.declared.limit.Limit.{Limit}
use Rattle.command_searches.specs.declared.limit.Limit.TheVariants.{Turns, Seconds}

-- 1 to 10,000 turns, or 1 to 86,400 seconds
abbrev pub IsLimit : Limit → Type 0
IsLimit (Turns n) = (1 ≤ n) × (n ≤ 10000)
IsLimit (Seconds s) = (1 ≤ s) × (s ≤ 86400)

-- a fact on a number of turns holds for the limit's, or for one from 0 to 10,000 where seconds limit the search
abbrev pub ForLimit : Limit → (ℕ → Type 0) → Type 0
ForLimit (Turns n) P = P n
ForLimit (Seconds s) P = (k : ℕ) × (k ≤ 10000) × P k

-- all of the limit's turns were taken; where seconds limit a search, any number of turns may be
abbrev pub IsUsedUp : Limit → ℕ → Type 0
IsUsedUp (Turns n) processed = processed ≡ n
IsUsedUp (Seconds s) processed = Unit {0}

-- how many turns a search may take at most
abbrev pub turns_of : Limit → ℕ
turns_of (Turns n) = n
turns_of (Seconds s) = 10000

-- after how many seconds it is to stop
abbrev pub seconds_of : Limit → Option ℕ
seconds_of (Turns n) = None
seconds_of (Seconds s) = Some s
