-- What a duty line says.
use Rattle.std.specs.Prelude.{ℕ, zero, suc, List, [], ◌∷◌, None, Option, Some, Result, Ok, Err, codes, length, not, if◌then◌else◌}
use Rattle.std.specs.Str.{bytes_eq}
use Rattle.plan_duties.specs.BehindWords.{behind_at, is_behind}
use Rattle.plan_duties.specs.PartWords.{part_at}
use Rattle.plan_duties.specs.Tails.{no_tail, parts_done}
use Rattle.plan_duties.specs.declared.tail.Tail.{Tail}
use Rattle.plan_faults.specs.declared.fault.LineFault.{LineFault}
use Rattle.plan_faults.specs.declared.fault.LineFault.TheVariants.{Count, Part}
use Rattle.plan_faults.specs.declared.fault.PartFault.TheVariants.{Behind, NoEqual}
use Rattle.plan_fields.specs.Pairs.{lengths_at}
use Rattle.plan_fields.specs.Steps.{◌>>=◌, quoted}
use Rattle.plan_fields.specs.Words.{plan_name_at}
use Rattle.plan_meaning.specs.declared.plan.Duty.{Duty}
use Rattle.plan_meaning.specs.declared.plan.Lengths.{Lengths}
use Rattle.plan_meaning.specs.declared.plan.PlanCode.{PlanCode}
use Rattle.plan_meaning.specs.declared.plan.PlanDay.{PlanDay}
use Rattle.plan_words.specs.Amounts.{cost_at}

-- what a word behind the `=` begins, and how many words behind it are its
unfoldable pub step_at : PlanDay → ℕ → List PlanCode → Tail → List ℕ → List (List ℕ) → Result (Tail × ℕ) LineFault
step_at d decimals xs t w ws =
    if is_behind w then behind_at d decimals t w ws
    else (if t.closed then Err (Part (Behind w)) else part_at d xs t w ws)

-- what words behind the `=` say, of which so many are passed over
abbrev pub tail_at : PlanDay → ℕ → List PlanCode → Tail → ℕ → List (List ℕ) → Result Tail LineFault
tail_at d decimals xs t skip [] = Ok t
tail_at d decimals xs t zero (w ∷ ws) =
    step_at d decimals xs t w ws >>= λ s. tail_at d decimals xs s.0 s.1 ws
tail_at d decimals xs t (suc k) (w ∷ ws) = tail_at d decimals xs t k ws

-- what stands behind the `=`, whose parts are 1 to 8
abbrev pub duty_tail : PlanDay → ℕ → List PlanCode → List (List ℕ) → Result Tail LineFault
duty_tail d decimals xs ws = tail_at d decimals xs no_tail 0 ws >>= parts_done

-- the cost of a duty, and the `=` behind it
unfoldable pub amount_word : ℕ → List ℕ → List ℕ → Result ℕ LineFault
amount_word decimals amount equal =
    quoted amount (cost_at decimals amount) >>= λ n. if not (bytes_eq equal (codes "=")) then Err
    (Part (NoEqual equal)) else Ok n

abbrev pub plus_of : Option ℕ → ℕ
plus_of None = 0
plus_of (Some plus) = plus

abbrev pub duty_of : ℕ → List ℕ → Lengths → ℕ → Tail → Duty
duty_of line name lasts cost t = record {
  line = line;
  name = name;
  lasts = lasts;
  cost = cost;
  parts = t.parts;
  begins = t.begins;
  ends = t.ends;
  stretch = t.stretch;
  plus = plus_of t.plus;
}

-- a duty line, behind its first word
unfoldable pub duty_at : ℕ → PlanDay → ℕ → List PlanCode → List (List ℕ) → Result Duty LineFault
duty_at line d decimals xs (name ∷ least ∷ greatest ∷ amount ∷ equal ∷ ws) =
    plan_name_at name >>= λ n. lengths_at d least greatest >>= λ l. amount_word decimals amount equal
    >>= λ c. duty_tail d decimals xs ws >>= λ t. Ok (duty_of line n l c t)
duty_at line d decimals xs ws = Err (Count (length ws) 5 None)
