use Rattle.std.proofs.Common.{◌≡◌, ℕ, ◌<◌, ◌≤◌, unsigned_abs}
use Rattle.lp_tableaus.specs.Cheaper.{place_at}
use Rattle.lp_tableaus.proofs.small.check_entries.Given as goal

abbrev pub invariant-loop-place : goal.invariant-loop-place
invariant-loop-place l = record {
  units : (k : ℕ) → k < l.place-index → unsigned_abs (place_at l.places k).value ≤ 1;
  tally : l.tally ≡ l.fn.tally;
}
