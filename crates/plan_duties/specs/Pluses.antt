-- What a period costs with the plus of a duty line.
use Rattle.std.specs.Prelude.{ℕ, ◌+◌, List, [], ◌∷◌, None, Option, Some, Result, Ok, Err, not, if◌then◌else◌}
use Rattle.plan_faults.specs.declared.fault.LineFault.{LineFault}
use Rattle.plan_faults.specs.declared.fault.LineFault.TheVariants.{Plus}
use Rattle.plan_fields.specs.Codes.{coded}
use Rattle.plan_fields.specs.Costs.{costly_period, told}
use Rattle.plan_fields.specs.Steps.{◌>>=◌}
use Rattle.plan_fields.specs.declared.draft.Draft.{Draft}
use Rattle.plan_meaning.specs.Shifts.{is_paid}
use Rattle.plan_meaning.specs.declared.plan.Part.{Part}
use Rattle.plan_meaning.specs.declared.plan.Part.TheVariants.{Pause, Work}
use Rattle.plan_meaning.specs.declared.plan.PlanCode.{PlanCode}
use Rattle.plan_meaning.specs.declared.plan.PlanDay.{PlanDay}

-- all of these pass, or the fault of the first that does not
abbrev pub all_pass : {W : Type 0} → (W → Result Unit LineFault) → List W → Result Unit LineFault
all_pass check [] = Ok tt
all_pass check (w ∷ ws) = check w >>= λ passed. all_pass check ws

-- no period costs too much, or the first that does
abbrev pub cheap_or : ℕ → Option ℕ → Result Unit LineFault
cheap_or code None = Ok tt
cheap_or code (Some units) = Err (Plus code (told units))

-- a code of this line, with the plus where it is paid
unfoldable pub line_plus : PlanDay → Draft → ℕ → PlanCode → Result Unit LineFault
line_plus d draft plus x =
    if not (is_paid x) then Ok tt
    else cheap_or x.code (costly_period d draft.extras x.code (x.hour + plus))

abbrev pub found_plus : PlanDay → Draft → ℕ → Option PlanCode → Result Unit LineFault
found_plus d draft plus None = Ok tt
found_plus d draft plus (Some x) = line_plus d draft plus x

unfoldable pub code_plus : PlanDay → Draft → ℕ → ℕ → Result Unit LineFault
code_plus d draft plus code = found_plus d draft plus (coded draft.codes code)

-- the codes of a part from the left
unfoldable pub part_plus : PlanDay → Draft → ℕ → Part → Result Unit LineFault
part_plus d draft plus (Work cs) = all_pass (code_plus d draft plus) cs
part_plus d draft plus (Pause code times) = code_plus d draft plus code

-- all parts from the left
abbrev pub parts_plus : PlanDay → Draft → ℕ → List Part → Result Unit LineFault
parts_plus d draft plus parts = all_pass (part_plus d draft plus) parts
