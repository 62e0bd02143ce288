use Rattle.std.proofs.Common.{◌≡◌, ◌≤◌, drop, max}
use Rattle.model_rosters.specs.Cuts.{lo}
use Rattle.check_parts.proofs.pinned_part.bounds.low.Given as goal

abbrev pub invariant-loop-cut : goal.invariant-loop-cut
invariant-loop-cut l = record {
  value : lo l.cuts l.arc ≡ max l.least (lo (drop l.cut-index l.cuts) l.arc);
  within : l.least ≤ 64;
}
