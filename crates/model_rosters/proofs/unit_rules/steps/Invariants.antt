use Rattle.model_rosters.proofs.StepRules.{HasSteps}
use Rattle.model_rosters.proofs.unit_rules.steps.Given as goal

abbrev pub invariant-loop-rule : goal.invariant-loop-rule
invariant-loop-rule l = HasSteps l.grammar l.rule-index l.reach
