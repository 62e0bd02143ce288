-- What a plan text says, or its first fault.
pub use Rattle.plan_fields.specs.Steps.{◌>>=◌, each}
use Rattle.std.specs.Prelude.{ℕ, ◌||◌, Bool, List, [], ◌∷◌, None, Option, Some, Result, Ok, Err, length, nat_eq, nat_lt, not, if◌then◌else◌}
use Rattle.std.specs.List.{list_any}
use Rattle.text_lines.specs.Lines.{before_comment}
use Rattle.text_lines.specs.Steps as steps
use Rattle.plan_cells.specs.Lines.{NumberedLine, text_lines}
use Rattle.plan_faults.specs.declared.fault.Kind.TheVariants as kind
use Rattle.plan_faults.specs.declared.fault.LineFault.{LineFault}
use Rattle.plan_faults.specs.declared.fault.LineFault.TheVariants as line
use Rattle.plan_faults.specs.declared.fault.PlanFault.{PlanFault}
use Rattle.plan_faults.specs.declared.fault.PlanFault.TheVariants as plan
use Rattle.plan_faults.specs.declared.fault.StaffFault.TheVariants.{Missing}
use Rattle.plan_fields.specs.declared.draft.Draft.{Draft}
use Rattle.plan_lines.specs.Lines.{line_at}
use Rattle.plan_lines.specs.Readings.{nothing}
use Rattle.plan_lines.specs.StaffLines.{has_staff, has_unnamed}
use Rattle.plan_lines.specs.declared.finish.Said.{Said}
use Rattle.plan_lines.specs.declared.reading.Reading.{Reading}
use Rattle.plan_meaning.specs.declared.plan.Duty.{Duty}
use Rattle.plan_meaning.specs.declared.plan.Lengths.{Lengths}
use Rattle.plan_meaning.specs.declared.plan.Plan.{Plan}
use Rattle.plan_meaning.specs.declared.plan.PlanCode.{PlanCode}
use Rattle.plan_meaning.specs.declared.plan.PlanDay.{PlanDay}
use Rattle.plan_meaning.specs.declared.plan.Staff.{Staff}

-- what a call gave, seen by view, is what the text says, unless memory ran out
abbrev pub Reads : {A B : Type 0} → (A → B) → Result A PlanFault → Result B PlanFault → Type 0
Reads view result said = steps.Reads plan.Memory view result said

-- the fault of a line with the line's number
abbrev pub located : {A : Type 0} → ℕ → Result A LineFault → Result A PlanFault
located k (Ok x) = Ok x
located k (Err e) = Err (plan.Line k e)

-- one line before its comment, and what it adds
abbrev pub item_at : Reading → NumberedLine → Result Reading PlanFault
item_at r l = located l.number (line_at l.number r (before_comment l.bytes))

-- what all lines say, one after another
abbrev pub reading_of : List ℕ → Result Reading PlanFault
reading_of text = each item_at nothing (text_lines text)

-- there is a code of work
abbrev pub has_work : List PlanCode → Bool
has_work xs = list_any (λ (x : PlanCode). x.work) xs

-- this, or else that no line of the kind stands
abbrev pub some_day : Option PlanDay → Result PlanDay PlanFault
some_day None = Err (plan.NoLine kind.Day)
some_day (Some d) = Ok d

abbrev pub some_change : Option (Option ℕ) → Result (Option ℕ) PlanFault
some_change None = Err (plan.NoLine kind.Change)
some_change (Some x) = Ok x

abbrev pub some_stretch : Option Lengths → Result Lengths PlanFault
some_stretch None = Err (plan.NoLine kind.Stretch)
some_stretch (Some x) = Ok x

-- the lists of duties, of staff and of needs have lines
unfoldable pub listed : Draft → Said → Result Said PlanFault
listed draft said =
    if nat_eq (length draft.duties) 0 then Err (plan.NoLine kind.Duty)
    else (if nat_eq (length draft.staff) 0 then Err (plan.NoLine kind.Staff)
    else (if nat_eq (length draft.needs) 0 then Err (plan.NoLine kind.Need) else Ok said))

-- what lines behind the day line have to say, or the first kind of line that is missing
unfoldable pub draft_said : Draft → PlanDay → Result Said PlanFault
draft_said draft d =
    if not (has_work draft.codes) then Err (plan.NoLine kind.Work)
    else (some_change draft.change >>= λ change. some_stretch draft.stretch >>= λ range.
    listed draft (record { day = d; change = change; stretch = range }))

-- what lines have to say, or the first kind of line that is missing
unfoldable pub lines_said : Reading → Result Said PlanFault
lines_said r = some_day r.day >>= λ d. draft_said r.draft d

abbrev pub named_in : Option (List ℕ) → List (List ℕ) → List (List ℕ)
named_in None names = names
named_in (Some name) names = name ∷ names

-- the names of staff lines
abbrev pub staff_names : List Staff → List (List ℕ)
staff_names [] = []
staff_names (s ∷ ss) = named_in s.name (staff_names ss)

-- the fault of a duty without a staff line
abbrev pub without_staff : List Staff → Duty → PlanFault
without_staff ss x = plan.Line x.line (line.Staff (Missing x.name (staff_names ss)))

-- a duty has a staff line, where staff lines have names
unfoldable pub duty_staffed : List Staff → Duty → Result Unit PlanFault
duty_staffed ss x =
    if has_unnamed ss || has_staff x.name ss then Ok tt else Err (without_staff ss x)

abbrev pub staffed : List Staff → List Duty → Result Unit PlanFault
staffed ss [] = Ok tt
staffed ss (x ∷ xs) = duty_staffed ss x >>= λ has. staffed ss xs

abbrev pub plan_from : List ℕ → Draft → Said → Plan
plan_from title draft said = record {
  title = title;
  day = said.day;
  money = draft.money;
  codes = draft.codes;
  extras = draft.extras;
  change = said.change;
  stretch = said.stretch;
  starts = draft.starts;
  duties = draft.duties;
  staff = draft.staff;
  needs = draft.needs;
}

-- the plan that all lines make
unfoldable pub finish : Reading → Result Plan PlanFault
finish r =
    lines_said r >>= λ said. staffed r.draft.staff r.draft.duties >>= λ all. Ok (plan_from r.title r.draft said)

-- the plan that a text says, or the text's first fault
unfoldable pub plan_of : List ℕ → Result Plan PlanFault
plan_of text = if nat_lt 1048576 (length text) then Err plan.TooLong else (reading_of text >>= finish)
