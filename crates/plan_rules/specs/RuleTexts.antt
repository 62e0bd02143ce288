-- The rules text of a plan.
use Rattle.std.specs.Prelude.{ℕ, ◌≡◌, ◌≤◌, List, Ok, length}
use Rattle.model_rosters.specs.declared.grammar.Grammar.{Grammar}
use Rattle.model_rosters.specs.Folds.{Each}
use Rattle.plan_meaning.specs.declared.plan.Duty.{Duty}
use Rattle.plan_meaning.specs.declared.plan.Plan.{Plan}
use Rattle.plan_meaning.specs.Whole.{IsFirstStart, IsWholePlan}
use Rattle.text_rules.specs.RulesOf.{IsReading}
use Rattle.text_rules.specs.Written.{rules_text}
use Rattle.plan_laws.specs.declared.period_plan.NamedLines.{NamedLines}
use Rattle.plan_laws.specs.declared.period_plan.PeriodPlan.{PeriodPlan}
use Rattle.plan_laws.specs.Turned.{turned}
use Rattle.plan_rules.specs.Outcomes.{HasWritten}
use Rattle.plan_rules.specs.PlanSays.{AreLinesOf, SaysAll}

-- the text of a grammar that is written for the plan, and that is what the text reads as
pub record IsTextOf (p : PeriodPlan) (xs : List NamedLines) (text : List ℕ) : Type 0 where
  pub grammar : Grammar
  pub written : HasWritten p xs grammar
  pub text_is : text ≡ rules_text grammar
  pub reads : IsReading text (Ok grammar)

-- the text reads as a grammar that says the plan
pub record TextSays (p : Plan) (xs : List NamedLines) (text : List ℕ) : Type 0 where
  pub grammar : Grammar
  pub reads : IsReading text (Ok grammar)
  pub says : SaysAll p xs grammar

-- The text that is written for a plan, in numbers of periods, reads as a grammar whose start name says all
-- duty lines, and each duty name its lines.
abbrev pub TextSaysLaw : Type 0
TextSaysLaw = (p : Plan) (first : ℕ) (xs : List NamedLines) (text : List ℕ)
    → IsWholePlan p → IsFirstStart p p.starts first → Each (λ (d : Duty). 1 ≤ length d.parts) p.duties
    → AreLinesOf p xs → IsTextOf (turned p first) xs text → TextSays p xs text
