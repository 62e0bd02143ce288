-- The name at which all rules start.
use Rattle.std.specs.Prelude.{ℕ, List, [], ◌∷◌}
use Rattle.plan_laws.specs.declared.period_plan.NamedLines.{NamedLines}
use Rattle.plan_laws.specs.declared.period_plan.PeriodDuty.{PeriodDuty}
use Rattle.plan_laws.specs.Names.{Kind, day, start}

-- the day of the only lines, where they stand under no name
abbrev pub only_day : List ℕ → List PeriodDuty → Kind
only_day [] ds = day [] ds
only_day (c ∷ cs) ds = start (record { name = c ∷ cs; lines = ds } ∷ [])

abbrev pub start_kind : List NamedLines → Kind
start_kind [] = start []
start_kind (x ∷ []) = only_day x.name x.lines
start_kind (x ∷ y ∷ xs) = start (x ∷ y ∷ xs)
