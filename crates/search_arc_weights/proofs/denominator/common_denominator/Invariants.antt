use Rattle.search_arc_weights.specs.Loops.{IsCommonBefore}
use Rattle.search_arc_weights.proofs.denominator.common_denominator.Given as goal

abbrev pub invariant-loop-weight : goal.invariant-loop-weight
invariant-loop-weight l = IsCommonBefore l.weights l.weight-index l.d
