use Rattle.std.proofs.Common.{◌≡◌, drop, max}
use Rattle.model_rosters.specs.GreatestCost.{greatest_rule_cost}
use Rattle.model_rosters.proofs.bounds.greatest_rule_cost.Given as goal

abbrev pub invariant-loop-rule : goal.invariant-loop-rule
invariant-loop-rule l = greatest_rule_cost l.rules ≡ max (greatest_rule_cost (drop l.rule-index l.rules)) l.greatest
