-- Plans that are read are fit.
use Rattle.std.specs.Prelude.{ℕ, ◌≡◌, List, Ok}
use Rattle.plan_lines.specs.Plans.{plan_of}
use Rattle.plan_meaning.specs.declared.plan.Plan.{Plan}
use Rattle.plan_periods.specs.FitPlans.{IsFitPlan}

-- the plan that a text says is of whole periods, and its numbers are small
abbrev pub ReadingLaw : Type 0
ReadingLaw = (text : List ℕ) (p : Plan) → plan_of text ≡ Ok p → IsFitPlan p
