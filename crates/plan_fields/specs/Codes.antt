-- Codes, and the lines above that have them.
use Rattle.std.specs.Prelude.{ℕ, List, [], ◌∷◌, None, Option, Some, Result, Ok, Err, not, nat_eq, if◌then◌else◌}
use Rattle.plan_faults.specs.declared.fault.CodeFault.TheVariants.{Pause, Stands, Unknown}
use Rattle.plan_faults.specs.declared.fault.LineFault.{LineFault}
use Rattle.plan_faults.specs.declared.fault.LineFault.TheVariants.{Code}
use Rattle.plan_fields.specs.Steps.{◌>>=◌, quoted}
use Rattle.plan_meaning.specs.declared.plan.PlanCode.{PlanCode}
use Rattle.plan_words.specs.NameWords.{code_at}

-- the first line of a code
abbrev pub coded : List PlanCode → ℕ → Option PlanCode
coded [] code = None
coded (x ∷ xs) code = if nat_eq x.code code then Some x else coded xs code

-- a code that no line has
abbrev pub new_or : ℕ → Option PlanCode → Result ℕ LineFault
new_or code None = Ok code
new_or code (Some x) = Err (Code code Stands)

unfoldable pub new_at : List PlanCode → List ℕ → Result ℕ LineFault
new_at xs w = quoted w (code_at w) >>= λ c. new_or c (coded xs c)

-- the line of a code
abbrev pub known_or : ℕ → Option PlanCode → Result PlanCode LineFault
known_or code None = Err (Code code Unknown)
known_or code (Some x) = Ok x

unfoldable pub known_at : List PlanCode → List ℕ → Result PlanCode LineFault
known_at xs w = quoted w (code_at w) >>= λ c. known_or c (coded xs c)

-- a code of work that a line has
unfoldable pub work_at : List PlanCode → List ℕ → Result ℕ LineFault
work_at xs w = known_at xs w >>= λ x. if not x.work then Err (Code x.code Pause) else Ok x.code
