use Rattle.model_rosters.specs.Ranks.{ReachesOnlyLed, ReachesSteps, IsClosedBelow}
use Rattle.model_rosters.proofs.unit_rules.reach_of.Given as goal

abbrev pub invariant-loop-pivot : goal.invariant-loop-pivot
invariant-loop-pivot l = record {
  led : ReachesOnlyLed l.grammar l.reach;
  steps : ReachesSteps l.grammar l.reach;
  closed : IsClosedBelow l.pivot l.reach;
}
