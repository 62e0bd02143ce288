use Rattle.std.proofs.Common.{ℕ, ◌≤◌, ◌<◌, ◌^◌, get_or, pos, unsigned_abs}
use Rattle.search_dives.proofs.asking.copy_prices.Given as goal

abbrev pub invariant-loop-row : goal.invariant-loop-row
invariant-loop-row l = record {
  within : (k : ℕ) → k < l.row → unsigned_abs (get_or l.out k (pos 0)) ≤ 2 ^ 56;
}
