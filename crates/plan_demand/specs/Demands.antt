-- The instance that a plan and a forecast make.
use Rattle.std.specs.Prelude.{ℕ, ◌≤◌, ◌*◌, ◌/◌, nat_eq, List, [], ◌∷◌, ◌++◌, map, Option, None, Some, Result}
use Rattle.std.specs.List.{position_or_len}
use Rattle.std.specs.Str.{bytes_eq}
use Rattle.model_rosters.specs.declared.grammar.CodeDef.{CodeDef}
use Rattle.model_rosters.specs.declared.grammar.Grammar.{Grammar}
use Rattle.model_rosters.specs.declared.instance.Group.{Group}
use Rattle.model_rosters.specs.declared.instance.Instance.{Instance}
use Rattle.plan_meaning.specs.declared.forecast.Column.{Column}
use Rattle.plan_meaning.specs.declared.forecast.Forecast.{Forecast}
use Rattle.plan_meaning.specs.declared.plan.Need as plan
use Rattle.plan_meaning.specs.declared.plan.Plan.{Plan}
use Rattle.plan_meaning.specs.declared.plan.Staff.{Staff}
use Rattle.plan_meaning.specs.Rosters.{Asked, all_passed, asked, number_at, step_at}
use Rattle.text_demand_lines.specs.declared.draft.Bound.{Bound}
use Rattle.text_demand_lines.specs.declared.draft.Draft.{Draft}
use Rattle.text_demand_lines.specs.declared.draft.Heads.{Heads}
use Rattle.text_demand_lines.specs.declared.draft.Need as draft
use Rattle.text_demand_lines.specs.declared.fault.DemandFault.{DemandFault}
use Rattle.text_demand.specs.InstanceOf.{finish}
use Rattle.plan_demand.specs.declared.side.Side.{Side}
use Rattle.plan_demand.specs.declared.side.Side.TheVariants.{Least, Most}

-- ---- employees

-- the place of a name in the grammar
abbrev pub name_place : Grammar → List ℕ → ℕ
name_place g name = position_or_len (bytes_eq name) g.names

-- how many employees work, where a staff line without a name says it
abbrev pub heads_by : List Staff → Option Heads
heads_by [] = None
heads_by (s ∷ ss) =
    elim s.name [ None ↦ Some (record { least = s.least; most = s.greatest }) | Some name ↦ None ]

-- the group of a staff line with a name
abbrev pub group_of : Grammar → Staff → Option (List ℕ) → List Group
group_of g s None = []
group_of g s (Some name) =
    record { name = name_place g name; heads_min = s.least; heads_max = s.greatest } ∷ []

-- the groups of the staff lines with names, in their order
abbrev pub groups_by : Grammar → List Staff → List Group
groups_by g [] = []
groups_by g (s ∷ ss) = group_of g s s.name ++ groups_by g ss

-- ---- needs

-- the place of a code in the grammar
abbrev pub code_place : Grammar → ℕ → ℕ
code_place g code = position_or_len (λ (d : CodeDef). nat_eq d.byte code) g.codes

-- what an hour costs, in units a period
abbrev pub period_units : Plan → ℕ → ℕ
period_units p hour = hour * p.day.minutes / 60

-- in each period the number of the step that holds it, or another behind the last
abbrev pub counts_of : Plan → Forecast → List ℕ → ℕ → List ℕ
counts_of p f numbers other = map (λ (passed : ℕ). number_at (Some numbers) other (step_at p f passed)) (all_passed p)

-- the need line of a need line
abbrev pub need_of : Grammar → Plan → Forecast → Asked → draft.Need
need_of g p f a = record {
  code = code_place g a.need.code;
  under = period_units p a.need.missing;
  over = period_units p a.need.needless;
  counts = counts_of p f a.column.need 0;
}

abbrev pub needs_by : Grammar → Plan → Forecast → List Asked → List draft.Need
needs_by g p f xs = map (need_of g p f) xs

-- what a column says on one side, where it does
abbrev pub side_of : Side → Column → Option (List ℕ)
side_of Least c = c.least
side_of Most c = c.most

-- what stands in a period of which nothing is said
abbrev pub free : Side → ℕ
free Least = 0
free Most = 64

-- the bounds of a code, where a column says them
abbrev pub bound_of : Grammar → Plan → Forecast → Side → ℕ → Option (List ℕ) → List Bound
bound_of g p f side code None = []
bound_of g p f side code (Some numbers) =
    record { code = code_place g code; counts = counts_of p f numbers (free side) } ∷ []

abbrev pub bounds_by : Grammar → Plan → Forecast → Side → List Asked → List Bound
bounds_by g p f side [] = []
bounds_by g p f side (a ∷ xs) = bound_of g p f side a.need.code (side_of side a.column) ++ bounds_by g p f side xs

-- ---- the instance

-- each need line with what the forecast asks of its code
abbrev pub all_asked : Plan → Forecast → List Asked
all_asked p f = asked p.needs f.columns

-- what a demand text would say
abbrev pub draft_of : Grammar → Plan → Forecast → Draft
draft_of g p f = record {
  heads = heads_by p.staff;
  groups = groups_by g p.staff;
  needs = needs_by g p f (all_asked p f);
  least = bounds_by g p f Least (all_asked p f);
  most = bounds_by g p f Most (all_asked p f);
}

-- the instance of a plan and a forecast for the grammar of the plan
abbrev pub demand_of : Grammar → Plan → Forecast → Result Instance DemandFault
demand_of g p f = finish g (draft_of g p f)

-- what a period of a missing and of a needless employee costs is small
pub record IsSmallNeed (p : Plan) (n : plan.Need) : Type 0 where
  pub missing : period_units p n.missing ≤ 10000
  pub needless : period_units p n.needless ≤ 10000
