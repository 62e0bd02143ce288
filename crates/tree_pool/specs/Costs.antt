-- The costs of steps.
use Rattle.std.specs.Prelude.{ℕ, ◌≡◌, Some}
use Rattle.model_rosters.specs.declared.grammar.Grammar.{Grammar}
use Rattle.model_rosters.specs.declared.grammar.Rule.{Rule}
use Rattle.model_rosters.specs.declared.grammar.Step.{Step}
use Rattle.model_rosters.specs.Grammar.{rule_at}
use Rattle.model_rosters.specs.Arcs.{rule_cost}

-- the rule of the step exists
pub record HasRule (g : Grammar) (s : Step) : Type 0 where
  pub rule : Rule
  pub at : rule_at g s.rule ≡ Some rule

-- the cost of the rule of the step
abbrev pub step_cost : Grammar → Step → ℕ
step_cost g s = rule_cost g s.rule
