-- What the lines behind the day line say.
use Rattle.std.specs.Prelude.{ℕ, true, false, List, Result, Ok}
use Rattle.plan_faults.specs.declared.fault.Kind.{Kind}
use Rattle.plan_faults.specs.declared.fault.Kind.TheVariants as kind
use Rattle.plan_faults.specs.declared.fault.LineFault.{LineFault}
use Rattle.plan_fields.specs.declared.draft.Draft.{Draft}
use Rattle.plan_lines.specs.CodeLines.{code_line, extra_line, need_line}
use Rattle.plan_lines.specs.MoneyLines.{money_line}
use Rattle.plan_lines.specs.StaffLines.{duty_line, staff_line}
use Rattle.plan_lines.specs.StartLines.{change_line, starts_line, stretch_line}
use Rattle.plan_meaning.specs.declared.plan.PlanDay.{PlanDay}

-- a line of a kind, behind its first word; those of a title and of a day do not come here
unfoldable pub draft_line : ℕ → PlanDay → Draft → Kind → List (List ℕ) → Result Draft LineFault
draft_line k d draft kind.Title ws = Ok draft
draft_line k d draft kind.Day ws = Ok draft
draft_line k d draft kind.Money ws = money_line draft ws
draft_line k d draft kind.Work ws = code_line d draft true ws
draft_line k d draft kind.Pause ws = code_line d draft false ws
draft_line k d draft kind.Extra ws = extra_line d draft ws
draft_line k d draft kind.Change ws = change_line draft ws
draft_line k d draft kind.Stretch ws = stretch_line d draft ws
draft_line k d draft kind.Starts ws = starts_line d draft ws
draft_line k d draft kind.Duty ws = duty_line k d draft ws
draft_line k d draft kind.Staff ws = staff_line draft ws
draft_line k d draft kind.Need ws = need_line d draft ws
