use Rattle.std.proofs.Common.{◌≡◌, ◌≤◌, drop, min}
use Rattle.model_rosters.specs.Cuts.{hi}
use Rattle.check_parts.proofs.pinned_part.bounds.high.Given as goal

abbrev pub invariant-loop-cut : goal.invariant-loop-cut
invariant-loop-cut l = record {
  value : hi l.most l.cuts l.arc ≡ min l.greatest (hi l.most (drop l.cut-index l.cuts) l.arc);
  within : l.greatest ≤ l.most;
}
