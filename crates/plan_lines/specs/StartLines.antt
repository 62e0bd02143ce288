-- What the lines of changes, stretches and starts say.
use Rattle.std.specs.Prelude.{ℕ, zero, suc, ◌+◌, ◌*◌, ◌/◌, ◌%◌, Bool, false, ◌||◌, List, [], ◌∷◌, None, Option, Some, Result, Ok, Err, codes, is_some, length, nat_eq, nat_lt, not, if◌then◌else◌}
use Rattle.std.specs.Str.{bytes_eq}
use Rattle.plan_faults.specs.declared.fault.Kind.TheVariants as kind
use Rattle.plan_faults.specs.declared.fault.LineFault.{LineFault}
use Rattle.plan_faults.specs.declared.fault.LineFault.TheVariants as line
use Rattle.plan_faults.specs.declared.fault.StandFault.TheVariants.{Late, Second}
use Rattle.plan_faults.specs.declared.fault.StartsFault.TheVariants as starts
use Rattle.plan_fields.specs.Drafts.{decimals_of}
use Rattle.plan_fields.specs.Pairs.{lengths_at}
use Rattle.plan_fields.specs.Steps.{◌>>=◌, quoted}
use Rattle.plan_fields.specs.declared.draft.Draft.{Draft}
use Rattle.plan_meaning.specs.Times.{begin_minute}
use Rattle.plan_meaning.specs.declared.plan.Lengths.{Lengths}
use Rattle.plan_meaning.specs.declared.plan.PlanDay.{PlanDay}
use Rattle.plan_words.specs.Amounts.{cost_at}
use Rattle.plan_words.specs.Lengths.{length_at}

-- what a change costs, or that none may be
unfoldable pub change_word : ℕ → List ℕ → Result (Option ℕ) LineFault
change_word decimals w =
    if bytes_eq w (codes "no") then Ok None else (quoted w (cost_at decimals w) >>= λ n. Ok (Some n))

unfoldable pub new_change : ℕ → List (List ℕ) → Result (Option ℕ) LineFault
new_change decimals (w ∷ []) = change_word decimals w
new_change decimals ws = Err (line.Count (length ws) 1 (Some 1))

-- the change line, of which there is one, above the duties
unfoldable pub change_line : Draft → List (List ℕ) → Result Draft LineFault
change_line draft ws =
    if is_some draft.change then Err (line.Stand (Second kind.Change))
    else (if nat_lt 0 (length draft.duties) then Err (line.Stand (Late kind.Change))
    else (new_change (decimals_of draft) ws >>= λ x. Ok (record draft { change = Some x })))

unfoldable pub new_stretch : PlanDay → List (List ℕ) → Result Lengths LineFault
new_stretch d (w ∷ v ∷ []) = lengths_at d w v
new_stretch d ws = Err (line.Count (length ws) 2 (Some 2))

-- the stretch line, of which there is one, above the duties
unfoldable pub stretch_line : PlanDay → Draft → List (List ℕ) → Result Draft LineFault
stretch_line d draft ws =
    if is_some draft.stretch then Err (line.Stand (Second kind.Stretch))
    else (if nat_lt 0 (length draft.duties) then Err (line.Stand (Late kind.Stretch))
    else (new_stretch d ws >>= λ x. Ok (record draft { stretch = Some x })))

-- one of so many periods behind so many others begins at a multiple of this length by the clock
abbrev pub start_from : PlanDay → ℕ → ℕ → ℕ → Bool
start_from d n passed zero = false
start_from d n passed (suc k) =
    nat_eq ((begin_minute d + passed * d.minutes) % n) 0 || start_from d n (passed + 1) k

-- one of the first periods that together last as long does
abbrev pub some_start : PlanDay → ℕ → Bool
some_start d n = start_from d n 0 (n / d.minutes)

-- a length that divides 24 hours, of at most 8 periods, at whose multiple a period begins
unfoldable pub starts_of : PlanDay → List ℕ → ℕ → Result ℕ LineFault
starts_of d w n =
    if not (nat_eq (1440 % n) 0) then Err (line.Starts w starts.Uneven)
    else (if nat_lt 8 (n / d.minutes) then Err (line.Starts w (starts.Many (n / d.minutes)))
    else (if not (some_start d n) then Err (line.Starts w starts.Never) else Ok n))

unfoldable pub starts_word : PlanDay → List ℕ → Result ℕ LineFault
starts_word d w = quoted w (length_at d w) >>= λ n. starts_of d w n

unfoldable pub new_starts : PlanDay → List (List ℕ) → Result ℕ LineFault
new_starts d (w ∷ []) = starts_word d w
new_starts d ws = Err (line.Count (length ws) 1 (Some 1))

-- the starts line, of which there is one, above the duties
unfoldable pub starts_line : PlanDay → Draft → List (List ℕ) → Result Draft LineFault
starts_line d draft ws =
    if is_some draft.starts then Err (line.Stand (Second kind.Starts))
    else (if nat_lt 0 (length draft.duties) then Err (line.Stand (Late kind.Starts))
    else (new_starts d ws >>= λ n. Ok (record draft { starts = Some n })))
