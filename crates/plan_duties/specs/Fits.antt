-- What a duty line asks together.
use Rattle.std.specs.Prelude.{None, Option, Some, Result, Ok}
use Rattle.plan_duties.specs.Pluses.{parts_plus}
use Rattle.plan_duties.specs.Stretches.{parts_fit}
use Rattle.plan_duties.specs.Sums.{parts_greatest, parts_least, sum_fits, times_fit}
use Rattle.plan_faults.specs.declared.fault.LineFault.{LineFault}
use Rattle.plan_fields.specs.Steps.{◌>>=◌}
use Rattle.plan_fields.specs.declared.draft.Draft.{Draft}
use Rattle.plan_meaning.specs.declared.plan.Duty.{Duty}
use Rattle.plan_meaning.specs.declared.plan.Lengths.{Lengths}
use Rattle.plan_meaning.specs.declared.plan.PlanDay.{PlanDay}

-- how long the duty's stretches last: as its line says, else as a line above does
unfoldable pub range_of : Draft → Option Lengths → Option Lengths
range_of draft None = draft.stretch
range_of draft (Some range) = Some range

-- the parts one by one and together, where it is said how long stretches last
unfoldable pub range_fits : PlanDay → Draft → Duty → Option Lengths → Result Unit LineFault
range_fits d draft x None = Ok tt
range_fits d draft x (Some range) =
    parts_fit d draft range x.parts >>= λ passed.
    sum_fits x.lasts (parts_least draft range x.parts) (parts_greatest draft range x.parts)

-- the plus, the parts one by one, their sum, and the times
unfoldable pub duty_fits : PlanDay → Draft → Duty → Result Unit LineFault
duty_fits d draft x =
    parts_plus d draft x.plus x.parts >>= λ passed. range_fits d draft x (range_of draft x.stretch)
    >>= λ further. times_fit d x.lasts x.begins x.ends
