-- The words of a duty's parts.
use Rattle.std.specs.Prelude.{ℕ, ◌&&◌, Bool, List, [], ◌∷◌, ◌++◌, None, Option, Some, Result, Ok, Err, codes, drop, length, nat_eq, nat_lt, slice_index, if◌then◌else◌}
use Rattle.std.specs.List.{list_any, starts_with}
use Rattle.std.specs.Str.{bytes_eq}
use Rattle.plan_duties.specs.Tails.{may_pause, with_part, work_part}
use Rattle.plan_duties.specs.declared.tail.Side.TheVariants as side
use Rattle.plan_duties.specs.declared.tail.Tail.{Tail}
use Rattle.plan_faults.specs.declared.fault.CodeFault.TheVariants as code
use Rattle.plan_faults.specs.declared.fault.LineFault.{LineFault}
use Rattle.plan_faults.specs.declared.fault.LineFault.TheVariants.{Code, Part}
use Rattle.plan_faults.specs.declared.fault.PartFault.TheVariants.{Codes, OneTime}
use Rattle.plan_fields.specs.Codes.{coded, known_at}
use Rattle.plan_fields.specs.Pairs.{begins_at}
use Rattle.plan_fields.specs.Steps.{◌>>=◌, each}
use Rattle.plan_meaning.specs.declared.plan.Part.TheVariants.{Pause}
use Rattle.plan_meaning.specs.declared.plan.PlanCode.{PlanCode}
use Rattle.plan_meaning.specs.declared.plan.PlanDay.{PlanDay}
use Rattle.plan_meaning.specs.declared.plan.Times.{Times}
use Rattle.text_lines.specs.Numbers.{is_digit}

-- the codes of work in the order of their lines
abbrev pub work_codes : List PlanCode → List ℕ
work_codes [] = []
work_codes (x ∷ xs) = if x.work then x.code ∷ work_codes xs else work_codes xs

-- a stretch over all codes of work
abbrev pub all_work : List PlanCode → Tail → Result Tail LineFault
all_work xs t = work_part t (work_codes xs) t.side

-- a code of a line of work above
unfoldable pub code_in : ℕ → Option PlanCode → Result ℕ LineFault
code_in c None = Err (Code c code.Unknown)
code_in c (Some x) = if x.work then Ok c else Err (Code c code.Pause)

-- a further code of a set, in which none stands twice
unfoldable pub set_step : List PlanCode → List ℕ → List ℕ → ℕ → Result (List ℕ) LineFault
set_step xs word set c =
    if list_any (λ other. nat_eq other c) set then Err (Part (Codes word))
    else (code_in c (coded xs c) >>= λ b. Ok (set ++ b ∷ []))

abbrev pub set_of : List PlanCode → List ℕ → List ℕ → Result (List ℕ) LineFault
set_of xs word cs = each (set_step xs word) [] cs

-- a word that begins as `work:` does
abbrev pub begins_set : List ℕ → Bool
begins_set w = starts_with nat_eq w (codes "work:")

-- the codes of `work:CODES`
unfoldable pub set_at : List PlanCode → List ℕ → Result (List ℕ) LineFault
set_at xs w =
    if nat_eq (length (drop 5 w)) 0 then Err (Part (Codes w)) else set_of xs w (drop 5 w)

-- a stretch over some codes
abbrev pub work_set : List PlanCode → Tail → List ℕ → Result Tail LineFault
work_set xs t w = set_at xs w >>= λ cs. work_part t cs t.side

-- a word that is meant as a time: two bytes or more, the first of which is a digit
abbrev pub clock_word : List ℕ → Bool
clock_word w = nat_lt 1 (length w) && is_digit (slice_index w 0)

-- the times between which a pause begins, of which the first stands there
unfoldable pub two_times : PlanDay → ℕ → List ℕ → Option (List ℕ) → Result Times LineFault
two_times d c w None = Err (Part (OneTime c))
two_times d c w (Some v) = if clock_word v then begins_at d w v else Err (Part (OneTime c))

abbrev pub first_of : List (List ℕ) → Option (List ℕ)
first_of [] = None
first_of (w ∷ ws) = Some w

-- the times behind a pause, where they stand there, and how many words they are
unfoldable pub times_behind : PlanDay → ℕ → List (List ℕ) → Result (Option Times × ℕ) LineFault
times_behind d c [] = Ok (None, 0)
times_behind d c (w ∷ ws) =
    if clock_word w then (two_times d c w (first_of ws) >>= λ t. Ok (Some t, 2)) else Ok (None, 0)

-- the code of a pause
unfoldable pub pause_code : List PlanCode → List ℕ → Result ℕ LineFault
pause_code xs w = known_at xs w >>= λ x. if x.work then Err (Code x.code code.Work) else Ok x.code

-- a rest of a pause, and how many words behind its code are its
unfoldable pub pause_at : PlanDay → List PlanCode → Tail → List ℕ → List (List ℕ) → Result (Tail × ℕ) LineFault
pause_at d xs t w ws =
    pause_code xs w >>= λ c. may_pause c t.side >>= λ b. times_behind d b ws >>= λ x. Ok
    (with_part t (Pause b x.0) (side.Pause b), x.1)

-- a state, and no word that was taken with it
abbrev pub alone : Result Tail LineFault → Result (Tail × ℕ) LineFault
alone r = r >>= λ t. Ok (t, 0)

-- the part that a word says, and how many words behind it are its
unfoldable pub part_at : PlanDay → List PlanCode → Tail → List ℕ → List (List ℕ) → Result (Tail × ℕ) LineFault
part_at d xs t w ws =
    if bytes_eq w (codes "work") then alone (all_work xs t)
    else (if begins_set w then alone (work_set xs t w) else pause_at d xs t w ws)
