-- Names of several words.
use Rattle.std.specs.Prelude.{ℕ, ◌||◌, ◌++◌, List, [], ◌∷◌, Result, Ok, Err, length, nat_eq, nat_lt, if◌then◌else◌}
use Rattle.plan_faults.specs.declared.fault.LineFault.{LineFault}
use Rattle.plan_faults.specs.declared.fault.LineFault.TheVariants.{Bytes}
use Rattle.text_lines.specs.Written.{tail}

-- words with one space between them
abbrev pub joined : List (List ℕ) → List ℕ
joined [] = []
joined (w ∷ ws) = w ++ tail ws

-- a name of 1 to so many bytes
unfoldable pub checked : ℕ → List ℕ → Result (List ℕ) LineFault
checked most text =
    if nat_eq (length text) 0 || nat_lt most (length text) then Err (Bytes (length text) most) else Ok text

abbrev pub name_at : ℕ → List (List ℕ) → Result (List ℕ) LineFault
name_at most ws = checked most (joined ws)
