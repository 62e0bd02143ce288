-- The words behind a duty's parts.
use Rattle.std.specs.Prelude.{ℕ, ◌||◌, Bool, List, [], ◌∷◌, Some, Result, Ok, Err, codes, is_some, if◌then◌else◌}
use Rattle.std.specs.Str.{bytes_eq}
use Rattle.plan_duties.specs.Tails.{parts_done}
use Rattle.plan_duties.specs.declared.tail.Tail.{Tail}
use Rattle.plan_faults.specs.declared.fault.LineFault.{LineFault}
use Rattle.plan_faults.specs.declared.fault.LineFault.TheVariants.{Part}
use Rattle.plan_faults.specs.declared.fault.PartFault.TheVariants.{Behind, Twice}
use Rattle.plan_fields.specs.Pairs.{begins_at, ends_at, lengths_at}
use Rattle.plan_fields.specs.Steps.{◌>>=◌, quoted}
use Rattle.plan_meaning.specs.declared.plan.PlanDay.{PlanDay}
use Rattle.plan_words.specs.Amounts.{hour_at}

-- what begins something that stands behind the parts
abbrev pub is_behind : List ℕ → Bool
is_behind w =
    bytes_eq w (codes "begin") || bytes_eq w (codes "end") || bytes_eq w (codes "stretch")
    || bytes_eq w (codes "plus")

-- between which times the duty begins
unfoldable pub begin_word : PlanDay → Tail → List ℕ → List (List ℕ) → Result (Tail × ℕ) LineFault
begin_word d t w (a ∷ b ∷ ws) =
    if is_some t.begins then Err (Part (Twice w))
    else (begins_at d a b >>= λ x. Ok (record t { begins = Some x }, 2))
begin_word d t w _ = Err (Part (Behind w))

-- between which times it ends
unfoldable pub end_word : PlanDay → Tail → List ℕ → List (List ℕ) → Result (Tail × ℕ) LineFault
end_word d t w (a ∷ b ∷ ws) =
    if is_some t.ends then Err (Part (Twice w))
    else (ends_at d a b >>= λ x. Ok (record t { ends = Some x }, 2))
end_word d t w _ = Err (Part (Behind w))

-- how long its stretches last
unfoldable pub stretch_word : PlanDay → Tail → List ℕ → List (List ℕ) → Result (Tail × ℕ) LineFault
stretch_word d t w (a ∷ b ∷ ws) =
    if is_some t.stretch then Err (Part (Twice w))
    else (lengths_at d a b >>= λ x. Ok (record t { stretch = Some x }, 2))
stretch_word d t w _ = Err (Part (Behind w))

-- how much more an hour costs
unfoldable pub plus_word : PlanDay → ℕ → Tail → List ℕ → List (List ℕ) → Result (Tail × ℕ) LineFault
plus_word d decimals t w [] = Err (Part (Behind w))
plus_word d decimals t w (a ∷ ws) =
    if is_some t.plus then Err (Part (Twice w))
    else (quoted a (hour_at d.minutes decimals a) >>= λ x. Ok (record t { plus = Some x }, 1))

-- what a word behind the parts begins
unfoldable pub behind_at : PlanDay → ℕ → Tail → List ℕ → List (List ℕ) → Result (Tail × ℕ) LineFault
behind_at d decimals old w ws =
    parts_done old >>= λ t. if bytes_eq w (codes "begin") then begin_word d t w ws
    else (if bytes_eq w (codes "end") then end_word d t w ws
    else (if bytes_eq w (codes "stretch") then stretch_word d t w ws else plus_word d decimals t w ws))
