use Rattle.search_arc_weights.specs.Loops.{IsBestBefore}
use Rattle.search_arc_weights.proofs.choice.choose.Given as goal

abbrev pub invariant-loop-place : goal.invariant-loop-place
invariant-loop-place l = IsBestBefore l.arc_box.bounds l.d l.margin l.sums l.place l.best
