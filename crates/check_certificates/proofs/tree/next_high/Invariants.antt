use Rattle.std.proofs.Common.{◌≡◌, ◌≤◌, ℕ}
use Rattle.check_certificates.specs.Forests.{due_high}
use Rattle.check_certificates.proofs.tree.next_high.Given as goal

abbrev pub invariant-loop-open : goal.invariant-loop-open
invariant-loop-open l = record {
  due : (cuts : ℕ) → due_high cuts l.halves l.open ≡ due_high cuts l.fn.halves l.fn.splits;
  few : l.open ≤ l.fn.splits;
}

abbrev pub decreases-loop-open : goal.decreases-loop-open
decreases-loop-open l = l.open
