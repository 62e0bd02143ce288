-- What the lines of duties and of staff say.
use Rattle.std.specs.Prelude.{ℕ, ◌+◌, ◌&&◌, Bool, false, List, [], ◌∷◌, ◌++◌, None, Option, Some, Result, Ok, Err, is_some, length, nat_eq, nat_le, nat_lt, not, slice_index, if◌then◌else◌}
use Rattle.std.specs.List.{list_any}
use Rattle.std.specs.Str.{bytes_eq}
use Rattle.plan_duties.specs.DutyLines.{duty_at}
use Rattle.plan_duties.specs.Fits.{duty_fits}
use Rattle.plan_faults.specs.declared.fault.Kind.TheVariants as kind
use Rattle.plan_faults.specs.declared.fault.LineFault.{LineFault}
use Rattle.plan_faults.specs.declared.fault.LineFault.TheVariants as line
use Rattle.plan_faults.specs.declared.fault.NameFault.TheVariants.{NoDuty}
use Rattle.plan_faults.specs.declared.fault.StaffFault.TheVariants.{Many}
use Rattle.plan_faults.specs.declared.fault.StandFault.TheVariants.{ManyStaff, Second, SecondStaff}
use Rattle.plan_fields.specs.Drafts.{decimals_of}
use Rattle.plan_fields.specs.Names.{name_at}
use Rattle.plan_fields.specs.Pairs.{numbers_at}
use Rattle.plan_fields.specs.Steps.{◌>>=◌}
use Rattle.plan_fields.specs.Words.{plan_name_at}
use Rattle.plan_fields.specs.declared.draft.Draft.{Draft}
use Rattle.plan_meaning.specs.declared.plan.Duty.{Duty}
use Rattle.plan_meaning.specs.declared.plan.PlanDay.{PlanDay}
use Rattle.plan_meaning.specs.declared.plan.Staff.{Staff}
use Rattle.text_lines.specs.Numbers.{is_digit}

-- a duty, which can be
unfoldable pub new_duty : ℕ → PlanDay → Draft → List (List ℕ) → Result Duty LineFault
new_duty k d draft ws =
    duty_at k d (decimals_of draft) draft.codes ws >>= λ x. duty_fits d draft x >>= λ can_be. Ok x

-- a duty line
unfoldable pub duty_line : ℕ → PlanDay → Draft → List (List ℕ) → Result Draft LineFault
duty_line k d draft ws =
    new_duty k d draft ws >>= λ x. Ok (record draft { duties = draft.duties ++ x ∷ [] })

abbrev pub is_named : Staff → Bool
is_named s = is_some s.name

-- a staff line without a name stands above
abbrev pub has_unnamed : List Staff → Bool
has_unnamed ss = list_any (λ (s : Staff). not (is_named s)) ss

abbrev pub called_in : List ℕ → Option (List ℕ) → Bool
called_in name None = false
called_in name (Some own) = bytes_eq own name

-- the name of a staff line
unfoldable pub is_called : List ℕ → Staff → Bool
is_called name s = called_in name s.name

-- a staff line of the name stands above, or a duty line
abbrev pub has_staff : List ℕ → List Staff → Bool
has_staff name ss = list_any (is_called name) ss

abbrev pub has_duty : List ℕ → List Duty → Bool
has_duty name ds = list_any (λ (d : Duty). bytes_eq d.name name) ds

-- how many employees work at most
abbrev pub employees : List Staff → ℕ
employees [] = 0
employees (s ∷ ss) = s.greatest + employees ss

-- one more staff line, where at most 64 employees work with it
unfoldable pub with_staff : List Staff → Staff → Result (List Staff) LineFault
with_staff ss s =
    if nat_lt 64 (employees (ss ++ s ∷ [])) then Err (line.Staff (Many (employees (ss ++ s ∷ []))))
    else Ok (ss ++ s ∷ [])

-- two numbers without a name, where no staff line stands above
unfoldable pub all_staff : List Staff → List (List ℕ) → Result (List Staff) LineFault
all_staff ss (w ∷ v ∷ []) =
    if nat_lt 0 (length ss) then Err (line.Stand (Second kind.Staff))
    else (numbers_at w v >>= λ n. with_staff ss (record { name = None; least = n.0; greatest = n.1; words = [] }))
all_staff ss ws = Err (line.Count (length ws) 2 (Some 2))

-- the name of a duty above, which no staff line above has
unfoldable pub staff_name : Draft → List ℕ → Result (List ℕ) LineFault
staff_name draft w =
    plan_name_at w >>= λ n. if not (has_duty n draft.duties) then Err (line.Name n NoDuty)
    else (if has_staff n draft.staff then Err (line.Stand (SecondStaff n)) else Ok n)

-- what employees are called, where it is said
unfoldable pub staff_words : List (List ℕ) → Result (List ℕ) LineFault
staff_words ws = if nat_eq (length ws) 0 then Ok [] else name_at 60 ws

unfoldable pub named_words : Draft → List ℕ → List ℕ → List ℕ → List (List ℕ) → Result Staff LineFault
named_words draft name w v ws =
    staff_name draft name >>= λ n. numbers_at w v >>= λ m. staff_words ws >>= λ t.
    Ok (record { name = Some n; least = m.0; greatest = m.1; words = t })

-- a name, two numbers, and what employees are called
unfoldable pub named_staff : Draft → List (List ℕ) → Result Draft LineFault
named_staff draft (name ∷ w ∷ v ∷ ws) =
    named_words draft name w v ws >>= λ s. with_staff draft.staff s >>= λ ss. Ok (record draft { staff = ss })
named_staff draft ws = Err (line.Count (length ws) 3 None)

-- a word that begins with a digit, as no name does
abbrev pub begins_number : List ℕ → Bool
begins_number w = nat_lt 0 (length w) && is_digit (slice_index w 0)

-- a staff line with a name or without
unfoldable pub new_staff : Draft → List (List ℕ) → Result Draft LineFault
new_staff draft [] = Err (line.Count 0 2 None)
new_staff draft (w ∷ ws) =
    if begins_number w then (all_staff draft.staff (w ∷ ws) >>= λ ss. Ok (record draft { staff = ss }))
    else named_staff draft (w ∷ ws)

-- a staff line, beside none without a name, and of at most eight
unfoldable pub staff_line : Draft → List (List ℕ) → Result Draft LineFault
staff_line draft ws =
    if has_unnamed draft.staff then Err (line.Stand (Second kind.Staff))
    else (if nat_le 8 (length draft.staff) then Err (line.Stand ManyStaff) else new_staff draft ws)
