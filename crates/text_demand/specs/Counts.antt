-- The numbers of periods that a line says.
use Rattle.std.specs.Prelude.{ℕ, ◌==◌, ◌++◌, not, min, length, List, [], ◌∷◌, if◌then◌else◌, Result, Ok, Err}
use Rattle.text_demand_lines.specs.declared.fault.DemandFault.{DemandFault}
use Rattle.text_demand_lines.specs.declared.fault.DemandFault.TheVariants.{WrongCount}
use Rattle.text_demand_lines.specs.Fields.{number_at}
use Rattle.text_demand_lines.specs.Steps.{◌>>=◌, each}

-- one more number of a period, from 0 to 64
abbrev pub count_at : ℕ → List ℕ → List ℕ → Result (List ℕ) DemandFault
count_at k counts w = number_at k 0 64 w >>= λ n. Ok (counts ++ n ∷ [])

-- The numbers of all periods. A fault that carries their number has no room for one of 2^32 or
-- more, which no text within its limit holds.
unfoldable pub counts_at : ℕ → ℕ → List (List ℕ) → Result (List ℕ) DemandFault
counts_at k periods ws =
    if not (length ws == periods) then Err (WrongCount k (min (length ws) 4294967295)) else each
    (count_at k) [] ws
