-- The rules of some names in the law's words.
use Rattle.std.specs.Prelude.{ℕ, List, [], ◌∷◌}
use Rattle.model_rosters.specs.declared.grammar.Window.{Window}
use Rattle.plan_laws.specs.declared.period_plan.Activity.{Activity}
use Rattle.plan_laws.specs.declared.period_plan.PeriodPlan.{PeriodPlan}
use Rattle.plan_laws.specs.Named.{NamedRule, coded, named}
use Rattle.plan_laws.specs.Names.{Kind, at, run, off, step, steps, block, from, other, plain, dots, block_rule}
use Rattle.plan_laws.specs.PeriodShifts.{change_cost}

abbrev pub run_rules : ℕ → Activity → List (NamedRule Kind)
run_rules r a = plain 0 (named (at r a) ∷ []) ∷ plain 0 (named (at r a) ∷ named (run r a) ∷ []) ∷ []

abbrev pub from_rules : PeriodPlan → ℕ → List Activity → Activity → List (NamedRule Kind)
from_rules p r s a =
    plain 0 (named (block r a) ∷ [])
    ∷ plain (change_cost p) (named (block r a) ∷ named (other r s a) ∷ []) ∷ []

abbrev pub off_rules : PeriodPlan → List (NamedRule Kind)
off_rules p = plain 0 (coded p.off ∷ []) ∷ plain 0 (coded p.off ∷ named off ∷ []) ∷ []

abbrev pub step_rules : PeriodPlan → List (NamedRule Kind)
step_rules p = plain 0 (dots p p.starts) ∷ []

abbrev pub steps_rules : List (NamedRule Kind)
steps_rules = plain 0 (named step ∷ []) ∷ plain 0 (named step ∷ named steps ∷ []) ∷ []

-- a stretch of one block
abbrev pub block_long : ℕ → Window → Activity → NamedRule Kind
block_long r long a = record (block_rule r a) { span = long }
