-- What the money line says.
use Rattle.std.specs.Prelude.{ℕ, Bool, true, List, [], ◌∷◌, None, Option, Some, Result, Ok, Err, is_some, length, nat_lt, if◌then◌else◌}
use Rattle.plan_faults.specs.declared.fault.Kind.TheVariants as kind
use Rattle.plan_faults.specs.declared.fault.LineFault.{LineFault}
use Rattle.plan_faults.specs.declared.fault.LineFault.TheVariants as line
use Rattle.plan_faults.specs.declared.fault.StandFault.TheVariants.{Late, Second}
use Rattle.plan_fields.specs.Names.{checked}
use Rattle.plan_fields.specs.Steps.{◌>>=◌, quoted}
use Rattle.plan_fields.specs.declared.draft.Draft.{Draft}
use Rattle.plan_meaning.specs.declared.plan.Money.{Money}
use Rattle.plan_words.specs.Numbers.{number_at}

-- a line above has an amount: one of a code, or that of a change
abbrev pub amounts_in : Option (Option ℕ) → Bool → Bool
amounts_in (Some (Some n)) codes = true
amounts_in (Some None) codes = codes
amounts_in None codes = codes

abbrev pub has_amounts : Draft → Bool
has_amounts draft = amounts_in draft.change (nat_lt 0 (length draft.codes))

-- how many decimals amounts have: none where no word says it
unfoldable pub decimals_word : Option (List ℕ) → Result ℕ LineFault
decimals_word None = Ok 0
decimals_word (Some w) = quoted w (number_at 0 3 w)

unfoldable pub money_words : List ℕ → Option (List ℕ) → Result Money LineFault
money_words name w = checked 20 name >>= λ n. decimals_word w >>= λ m. Ok (record { name = n; decimals = m })

unfoldable pub new_money : List (List ℕ) → Result Money LineFault
new_money (name ∷ []) = money_words name None
new_money (name ∷ w ∷ []) = money_words name (Some w)
new_money ws = Err (line.Count (length ws) 1 (Some 2))

-- the money line, of which there is one, before all amounts
unfoldable pub money_line : Draft → List (List ℕ) → Result Draft LineFault
money_line draft ws =
    if is_some draft.money then Err (line.Stand (Second kind.Money))
    else (if has_amounts draft then Err (line.Stand (Late kind.Money))
    else (new_money ws >>= λ m. Ok (record draft { money = Some m })))
