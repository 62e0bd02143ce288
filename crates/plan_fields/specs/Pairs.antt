-- Pairs of words, of which the first is not above the second.
use Rattle.std.specs.Prelude.{ℕ, List, Result, Ok, Err, nat_le, nat_lt, if◌then◌else◌}
use Rattle.plan_faults.specs.declared.fault.LineFault.{LineFault}
use Rattle.plan_faults.specs.declared.fault.LineFault.TheVariants.{Pair}
use Rattle.plan_faults.specs.declared.fault.PairFault.TheVariants.{Later, Longer, More, NotBefore}
use Rattle.plan_fields.specs.Steps.{◌>>=◌, quoted}
use Rattle.plan_meaning.specs.Times.{begin_behind, end_behind}
use Rattle.plan_meaning.specs.declared.plan.Lengths.{Lengths}
use Rattle.plan_meaning.specs.declared.plan.PlanDay.{PlanDay}
use Rattle.plan_meaning.specs.declared.plan.Times.{Times}
use Rattle.plan_words.specs.Lengths.{length_at}
use Rattle.plan_words.specs.Numbers.{number_at}
use Rattle.plan_words.specs.TimeWords.{begin_at, end_at}

-- two lengths
unfoldable pub lengths_at : PlanDay → List ℕ → List ℕ → Result Lengths LineFault
lengths_at d w v =
    quoted w (length_at d w) >>= λ a. quoted v (length_at d v) >>= λ b. if nat_lt b a
    then Err (Pair w v Longer) else Ok (record { least = a; greatest = b })

-- two begins
unfoldable pub begins_at : PlanDay → List ℕ → List ℕ → Result Times LineFault
begins_at d w v =
    quoted w (begin_at d w) >>= λ a. quoted v (begin_at d v)
    >>= λ b. if nat_lt (begin_behind d b) (begin_behind d a)
    then Err (Pair w v Later) else Ok (record { from = a; to = b })

-- two ends
unfoldable pub ends_at : PlanDay → List ℕ → List ℕ → Result Times LineFault
ends_at d w v =
    quoted w (end_at d w) >>= λ a. quoted v (end_at d v) >>= λ b. if nat_lt (end_behind d b) (end_behind d a)
    then Err (Pair w v Later) else Ok (record { from = a; to = b })

-- a begin, and an end behind it
unfoldable pub span_at : PlanDay → List ℕ → List ℕ → Result Times LineFault
span_at d w v =
    quoted w (begin_at d w) >>= λ a. quoted v (end_at d v)
    >>= λ b. if nat_le (end_behind d b) (begin_behind d a)
    then Err (Pair w v NotBefore) else Ok (record { from = a; to = b })

-- two numbers of employees
unfoldable pub numbers_at : List ℕ → List ℕ → Result (ℕ × ℕ) LineFault
numbers_at w v =
    quoted w (number_at 0 64 w) >>= λ a. quoted v (number_at 1 64 v) >>= λ b. if nat_lt b a
    then Err (Pair w v More) else Ok (a, b)
