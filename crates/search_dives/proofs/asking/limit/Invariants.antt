use Rattle.std.proofs.Common.{ℕ, ◌<◌, ◌^◌, get_or, pos}
use Rattle.model_rosters.specs.Sums.{Within}
use Rattle.search_dives.proofs.asking.limit.Given as goal

abbrev pub invariant-loop-place : goal.invariant-loop-place
invariant-loop-place l = record {
  within : (k : ℕ) → k < l.place → Within (2 ^ 80) (get_or l.numbers k (pos 0));
}
