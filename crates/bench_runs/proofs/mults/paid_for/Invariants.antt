use Rattle.std.proofs.Common.{◌≡◌, ◌^◌, All, length}
use Rattle.model_rosters.specs.Sums.{Within}
use Rattle.bench_runs.proofs.mults.paid_for.Given as goal

abbrev pub invariant-loop-number : goal.invariant-loop-number
invariant-loop-number l = record {
  count : length l.paid ≡ l.number;
  small : All (Within (2 ^ 80)) l.paid;
}
