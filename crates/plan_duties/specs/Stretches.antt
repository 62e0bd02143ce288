-- Which lengths blocks of some codes make, and what a stretch of work takes.
use Rattle.std.specs.Prelude.{ℕ, zero, suc, ◌+◌, ◌-◌, ◌/◌, Bool, true, false, ◌&&◌, ◌||◌, not, List, [], ◌∷◌, ◌++◌, None, Option, Some, Result, Ok, Err, drop, length, nat_eq, nat_le, nat_lt, take, if◌then◌else◌}
use Rattle.std.specs.List.{list_any}
use Rattle.plan_duties.specs.Pluses.{all_pass}
use Rattle.plan_faults.specs.declared.fault.DutyFault.TheVariants as fault
use Rattle.plan_faults.specs.declared.fault.LineFault.{LineFault}
use Rattle.plan_faults.specs.declared.fault.LineFault.TheVariants as line
use Rattle.plan_fields.specs.Codes.{coded}
use Rattle.plan_fields.specs.Steps.{◌>>=◌}
use Rattle.plan_fields.specs.declared.draft.Draft.{Draft}
use Rattle.plan_meaning.specs.declared.plan.Lengths.{Lengths}
use Rattle.plan_meaning.specs.declared.plan.Part.{Part}
use Rattle.plan_meaning.specs.declared.plan.Part.TheVariants.{Pause, Work}
use Rattle.plan_meaning.specs.declared.plan.PlanCode.{PlanCode}
use Rattle.plan_meaning.specs.declared.plan.PlanDay.{PlanDay}

-- the least and the greatest block of a code; one that lasts nothing where no line has the code
abbrev pub lasts_in : Option PlanCode → Lengths
lasts_in None = record { least = 0; greatest = 0 }
lasts_in (Some x) = x.lasts

abbrev pub lasts_of : List PlanCode → ℕ → Lengths
lasts_of xs c = lasts_in (coded xs c)

-- activities may change within a stretch, as long as no line says that they may not
abbrev pub may_change : Option (Option ℕ) → Bool
may_change None = true
may_change (Some None) = false
may_change (Some (Some amount)) = true

-- a stretch over these codes is one block
abbrev pub is_block : Option (Option ℕ) → List ℕ → Bool
is_block change cs = nat_lt (length cs) 2 || not (may_change change)

-- a stretch may be as long as a block of the code
abbrev pub is_length : List PlanCode → Lengths → ℕ → Bool
is_length xs range c =
    nat_le (lasts_of xs c).least range.greatest && nat_le range.least (lasts_of xs c).greatest

-- a stretch of a length may end with another of these codes
abbrev pub has_other : ℕ → List ℕ → Bool
has_other c ends = list_any (λ other. not (nat_eq other c)) ends

-- where stretches of 0, 1 and so on periods may end with these codes, a stretch of as many periods as follow
-- may end with a block of this code, so many to so many periods long
abbrev pub may_end : List (List ℕ) → ℕ → ℕ → ℕ → Bool
may_end rows c least greatest =
    list_any (has_other c) (drop (length rows - greatest) (take (length rows + 1 - least) rows))

-- the codes with which such a stretch may end
abbrev pub ends_of : PlanDay → List PlanCode → List (List ℕ) → List ℕ → List ℕ
ends_of d xs rows [] = []
ends_of d xs rows (c ∷ cs) =
    if may_end rows c ((lasts_of xs c).least / d.minutes) ((lasts_of xs c).greatest / d.minutes)
    then c ∷ ends_of d xs rows cs else ends_of d xs rows cs

-- with which codes stretches of 0 to so many periods may end; behind nothing stands no code
abbrev pub rows_to : PlanDay → List PlanCode → List ℕ → ℕ → List (List ℕ)
rows_to d xs cs zero = (0 ∷ []) ∷ []
rows_to d xs cs (suc n) = rows_to d xs cs n ++ ends_of d xs (rows_to d xs cs n) cs ∷ []

abbrev pub some_code : List ℕ → Bool
some_code ends = not (nat_eq (length ends) 0)

-- blocks of these codes, of which neighbours differ, make a stretch
abbrev pub make_one : PlanDay → List PlanCode → Lengths → List ℕ → Bool
make_one d xs range cs =
    list_any some_code (drop (range.least / d.minutes) (rows_to d xs cs (range.greatest / d.minutes)))

-- blocks of these codes make a stretch
abbrev pub is_stretch : PlanDay → Draft → Lengths → List ℕ → Bool
is_stretch d draft range cs =
    if is_block draft.change cs then list_any (is_length draft.codes range) cs
    else make_one d draft.codes range cs

-- a block of the code is no longer than a stretch
abbrev pub block_in : Lengths → Option PlanCode → Result Unit LineFault
block_in range None = Ok tt
block_in range (Some x) =
    if nat_lt range.greatest x.lasts.least
    then Err (line.Duty (fault.Block x.words x.lasts.least range.greatest)) else Ok tt

unfoldable pub block_fits : Draft → Lengths → ℕ → Result Unit LineFault
block_fits draft range c = block_in range (coded draft.codes c)

-- where these are codes, blocks of them make a stretch
unfoldable pub stretch_fits : PlanDay → Draft → Lengths → List ℕ → Result Unit LineFault
stretch_fits d draft range cs =
    if nat_eq (length cs) 0 || is_stretch d draft range cs then Ok tt
    else Err (line.Duty (fault.NoBlocks range cs))

-- a part for itself
unfoldable pub part_fits : PlanDay → Draft → Lengths → Part → Result Unit LineFault
part_fits d draft range (Work cs) =
    all_pass (block_fits draft range) cs >>= λ passed. stretch_fits d draft range cs
part_fits d draft range (Pause code times) = Ok tt

-- all parts from the left
abbrev pub parts_fit : PlanDay → Draft → Lengths → List Part → Result Unit LineFault
parts_fit d draft range parts = all_pass (part_fits d draft range) parts
