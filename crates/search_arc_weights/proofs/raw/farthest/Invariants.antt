use Rattle.std.specs.Prelude.{IfSome}
use Rattle.search_arc_weights.specs.Raw.{IsOpen}
use Rattle.search_arc_weights.proofs.raw.farthest.Given as goal

abbrev pub invariant-loop-place : goal.invariant-loop-place
invariant-loop-place l = IfSome l.best (IsOpen l.arc_box.bounds)
