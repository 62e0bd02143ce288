use Rattle.std.proofs.Common.{◌≡◌}
use Rattle.plan_duties.specs.Stretches.{rows_to}
use Rattle.plan_duties.proofs.stretch.rows_to.Given as goal

abbrev pub invariant-loop-done : goal.invariant-loop-done
invariant-loop-done l = l.rows ≡ rows_to l.day l.lines l.codes l._done
