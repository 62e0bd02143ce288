-- What the parts of a duty take together.
use Rattle.std.specs.Prelude.{ℕ, ◌+◌, Bool, ◌&&◌, ◌||◌, List, [], ◌∷◌, None, Option, Some, Result, Ok, Err, max, min, nat_le, nat_lt, if◌then◌else◌}
use Rattle.plan_duties.specs.Stretches.{is_block, lasts_of}
use Rattle.plan_faults.specs.declared.fault.DutyFault.TheVariants as fault
use Rattle.plan_faults.specs.declared.fault.LineFault.{LineFault}
use Rattle.plan_faults.specs.declared.fault.LineFault.TheVariants as line
use Rattle.plan_fields.specs.declared.draft.Draft.{Draft}
use Rattle.plan_meaning.specs.Times.{begin_behind, day_length, end_behind}
use Rattle.plan_meaning.specs.declared.plan.Lengths.{Lengths}
use Rattle.plan_meaning.specs.declared.plan.Part.{Part}
use Rattle.plan_meaning.specs.declared.plan.Part.TheVariants.{Pause, Work}
use Rattle.plan_meaning.specs.declared.plan.PlanCode.{PlanCode}
use Rattle.plan_meaning.specs.declared.plan.PlanDay.{PlanDay}
use Rattle.plan_meaning.specs.declared.plan.Times.{Times}

-- the least block of these codes, beside one that lasts so long
abbrev pub least_block : List PlanCode → ℕ → List ℕ → ℕ
least_block xs found [] = found
least_block xs found (c ∷ cs) = least_block xs (min found (lasts_of xs c).least) cs

-- the greatest block of these codes, beside one that lasts so long
abbrev pub greatest_block : List PlanCode → ℕ → List ℕ → ℕ
greatest_block xs found [] = found
greatest_block xs found (c ∷ cs) = greatest_block xs (max found (lasts_of xs c).greatest) cs

-- at least the stretch's least and the least block; no code has no block
unfoldable pub work_least : Draft → Lengths → List ℕ → ℕ
work_least draft range [] = range.least
work_least draft range (c ∷ cs) = max range.least (least_block draft.codes (lasts_of draft.codes c).least cs)

-- at most the stretch's greatest, and of one block the greatest block
unfoldable pub work_greatest : Draft → Lengths → List ℕ → ℕ
work_greatest draft range [] = range.greatest
work_greatest draft range (c ∷ cs) =
    if is_block draft.change (c ∷ cs)
    then min range.greatest (greatest_block draft.codes (lasts_of draft.codes c).greatest cs)
    else range.greatest

-- the least and the greatest that a part takes
unfoldable pub part_least : Draft → Lengths → Part → ℕ
part_least draft range (Work cs) = work_least draft range cs
part_least draft range (Pause code times) = (lasts_of draft.codes code).least

unfoldable pub part_greatest : Draft → Lengths → Part → ℕ
part_greatest draft range (Work cs) = work_greatest draft range cs
part_greatest draft range (Pause code times) = (lasts_of draft.codes code).greatest

abbrev pub parts_least : Draft → Lengths → List Part → ℕ
parts_least draft range [] = 0
parts_least draft range (x ∷ xs) = part_least draft range x + parts_least draft range xs

abbrev pub parts_greatest : Draft → Lengths → List Part → ℕ
parts_greatest draft range [] = 0
parts_greatest draft range (x ∷ xs) = part_greatest draft range x + parts_greatest draft range xs

-- the parts together take a length of the duty
unfoldable pub sum_fits : Lengths → ℕ → ℕ → Result Unit LineFault
sum_fits lasts least greatest =
    if nat_lt lasts.greatest least || nat_lt greatest lasts.least
    then Err (line.Duty (fault.Sum least greatest lasts)) else Ok tt

-- the first and the last moment at which a duty may begin
unfoldable pub first_begin : PlanDay → Option Times → ℕ
first_begin d None = 0
first_begin d (Some t) = begin_behind d t.from

unfoldable pub last_begin : PlanDay → Option Times → ℕ
last_begin d None = day_length d
last_begin d (Some t) = begin_behind d t.to

-- the first and the last moment at which it may end
unfoldable pub first_end : PlanDay → Option Times → ℕ
first_end d None = 0
first_end d (Some t) = end_behind d t.from

unfoldable pub last_end : PlanDay → Option Times → ℕ
last_end d None = day_length d
last_end d (Some t) = end_behind d t.to

-- a length of the duty lies between its times
abbrev pub lies_between : PlanDay → Lengths → Option Times → Option Times → Bool
lies_between d lasts begins ends =
    nat_le (first_begin d begins + lasts.least) (last_end d ends)
    && nat_le (first_end d ends) (last_begin d begins + lasts.greatest)

unfoldable pub times_fit : PlanDay → Lengths → Option Times → Option Times → Result Unit LineFault
times_fit d lasts begins ends =
    if lies_between d lasts begins ends then Ok tt else Err (line.Duty (fault.Nowhere lasts))
