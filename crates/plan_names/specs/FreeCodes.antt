-- Which activities of a set are free: those whose greatest block is as long as the longest stretch that lines
-- with this set and this plus allow, where changes cost something.
use Rattle.std.specs.Prelude.{ℕ, ◌+◌, Bool, false, not, cond, ◌&&◌, ◌||◌, nat_eq, nat_le, max, List, [], ◌∷◌}
use lib.Pointwise.{pointwise}
use Rattle.plan_laws.specs.declared.period_plan.Activity.{Activity}
use Rattle.plan_laws.specs.declared.period_plan.NamedLines.{NamedLines}
use Rattle.plan_laws.specs.declared.period_plan.PeriodDuty.{PeriodDuty}
use Rattle.plan_laws.specs.declared.period_plan.PeriodPart.{PeriodPart}
use Rattle.plan_laws.specs.declared.period_plan.PeriodPart.TheVariants.{Pausing, Working}
use Rattle.plan_laws.specs.declared.period_plan.PeriodPlan.{PeriodPlan}
use Rattle.plan_laws.specs.Names.{Free}
use Rattle.plan_laws.specs.PeriodShifts.{change_cost}
use Rattle.plan_names.specs.Same.{same_set}

-- the part is work of this set
abbrev pub is_work_of : List Activity → PeriodPart → Bool
is_work_of s (Working t) = same_set s t
is_work_of s (Pausing a begin) = false

-- a part is work of this set
abbrev pub has_work_of : List Activity → List PeriodPart → Bool
has_work_of s [] = false
has_work_of s (x ∷ xs) = is_work_of s x || has_work_of s xs

-- the longest stretch that the line allows, where it has this plus and this set
abbrev pub line_longest : ℕ → List Activity → PeriodDuty → ℕ
line_longest r s d = cond (nat_eq d.plus r && has_work_of s d.parts) d.stretch.hi 0

-- the greatest of a number and the longest stretches of these lines
abbrev pub longest_from : ℕ → ℕ → List Activity → List PeriodDuty → ℕ
longest_from most r s [] = most
longest_from most r s (d ∷ ds) = longest_from (max most (line_longest r s d)) r s ds

abbrev pub longest_of : ℕ → ℕ → List Activity → List NamedLines → ℕ
longest_of most r s [] = most
longest_of most r s (x ∷ xs) = longest_of (longest_from most r s x.lines) r s xs

-- the activities that are free, by these duty lines
abbrev pub free_of : PeriodPlan → List NamedLines → Free
free_of p xs r s a = not (nat_eq (change_cost p) 0) && nat_le (longest_of 0 r s xs) a.greatest
