-- The law that the grammar that is written says the plan, as it is written in minutes.
use Rattle.std.specs.Prelude.{ℕ, ◌≡◌, ◌≢◌, ◌≤◌, None, Some, List, [], length, slice_get}
use Rattle.model_rosters.specs.declared.grammar.Grammar.{Grammar}
use Rattle.model_rosters.specs.Folds.{Each, In}
use Rattle.plan_meaning.specs.declared.plan.Duty.{Duty}
use Rattle.plan_meaning.specs.declared.plan.Plan.{Plan}
use Rattle.plan_meaning.specs.Whole.{IsFirstStart, IsWholePlan}
use Rattle.plan_laws.specs.declared.period_plan.NamedLines.{NamedLines}
use Rattle.plan_laws.specs.Laws.{all_lines}
use Rattle.plan_laws.specs.PlanRules.{AreSame, SaysName}
use Rattle.plan_laws.specs.Turned.{turned, turned_lines}
use Rattle.plan_rules.specs.Outcomes.{HasWritten}

-- the duty lines of the plan in numbers of periods, by duty names, or all under no name
pub record AreLinesOf (p : Plan) (xs : List NamedLines) : Type 0 where
  pub named : (x : NamedLines) → In x xs → x.name ≢ [] → AreSame x.lines (turned_lines p (Some x.name))
  pub all : AreSame (all_lines xs) (turned_lines p None)

-- The start name says all duty lines, and each duty name is a name of the grammar that says those of the
-- name: words and prices are exactly those of the plan.
pub record SaysAll (p : Plan) (xs : List NamedLines) (g : Grammar) : Type 0 where
  pub start : SaysName p g g.start None
  pub named : (x : NamedLines) → In x xs → x.name ≢ []
      → (n : ℕ) × (slice_get g.names n ≡ Some x.name) × SaysName p g n (Some x.name)

abbrev pub PlanSaysLaw : Type 0
PlanSaysLaw = (p : Plan) (first : ℕ) (xs : List NamedLines) (g : Grammar)
    → IsWholePlan p → IsFirstStart p p.starts first → Each (λ (d : Duty). 1 ≤ length d.parts) p.duties
    → AreLinesOf p xs → HasWritten (turned p first) xs g → SaysAll p xs g
