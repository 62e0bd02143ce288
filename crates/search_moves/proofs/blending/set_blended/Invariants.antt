use Rattle.std.proofs.Common.{ℕ, ◌<◌, ◌^◌, get_or, pos}
use Rattle.model_rosters.specs.Sums.{Within}
use Rattle.search_moves.proofs.blending.set_blended.Given as goal

abbrev pub invariant-loop-place : goal.invariant-loop-place
invariant-loop-place l = record {
  within : (k : ℕ) → k < l.place → Within (2 ^ 80) (get_or l.savings k (pos 0));
}
