-- Times and lengths, written.
use Rattle.std.specs.Prelude.{ℕ, ◌+◌, ◌/◌, ◌%◌, List, [], ◌∷◌, ◌++◌, codes}
use Rattle.std.specs.Fmt.{decimal}

-- a number below 100 by two digits
unfoldable pub two_text : ℕ → List ℕ
two_text n = (48 + n / 10) ∷ (48 + n % 10) ∷ []

-- hours and minutes, `H:MM`
unfoldable pub clock_text : ℕ → List ℕ
clock_text minutes = decimal (minutes / 60) ++ (codes ":" ++ two_text (minutes % 60))
