-- The duty lines of a plan by duty names.
use Rattle.std.specs.Prelude.{ℕ, ◌≡◌, ◌⊎◌, List, [], ◌∷◌, ◌++◌, Option, None, Some}
use Rattle.model_rosters.specs.Folds.{Each, In}
use Rattle.plan_meaning.specs.declared.plan.Duty.{Duty}
use Rattle.plan_meaning.specs.declared.plan.Plan.{Plan}
use Rattle.plan_meaning.specs.declared.plan.Staff.{Staff}
use Rattle.plan_laws.specs.declared.period_plan.NamedLines.{NamedLines}
use Rattle.plan_laws.specs.Laws.{all_lines}
use Rattle.plan_laws.specs.PlanRules.{AreSame}
use Rattle.plan_laws.specs.Turned.{turned_lines}

-- the lines of a duty name
abbrev pub lines_of : Plan → List ℕ → NamedLines
lines_of p name = record { name = name; lines = turned_lines p (Some name) }

-- all lines, under no name
abbrev pub all_of : Plan → NamedLines
all_of p = record { name = []; lines = turned_lines p None }

-- those of a staff line's duty name, where it has one
abbrev pub of_staff : Plan → Option (List ℕ) → List NamedLines
of_staff p None = []
of_staff p (Some name) = lines_of p name ∷ []

abbrev pub by_staff : Plan → List Staff → List NamedLines
by_staff p [] = []
by_staff p (s ∷ ss) = of_staff p s.name ++ by_staff p ss

abbrev pub or_all : Plan → List NamedLines → List NamedLines
or_all p [] = all_of p ∷ []
or_all p (x ∷ xs) = x ∷ xs

-- the duty names of staff lines, in their order, with their lines; where none has a name, all lines under none
abbrev pub by_names : Plan → List NamedLines
by_names p = or_all p (by_staff p p.staff)

-- a staff line has this name
abbrev pub HasStaff : List Staff → List ℕ → Type 0
HasStaff ss name = (s : Staff) × In s ss × (s.name ≡ Some name)

-- no staff line has a name, or each duty line's name is that of one
abbrev pub AreStaffed : Plan → Type 0
AreStaffed p = Each (λ (s : Staff). s.name ≡ None) p.staff ⊎ Each (λ (d : Duty). HasStaff p.staff d.name) p.duties

abbrev pub NamesLaw : Type 0
NamesLaw = (p : Plan) → AreStaffed p → AreSame (all_lines (by_names p)) (turned_lines p None)
