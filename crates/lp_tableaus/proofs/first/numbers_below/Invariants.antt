use Rattle.std.proofs.Common.{◌≡◌, ℕ, ◌<◌, length}
use Rattle.std.specs.Prelude.{slice_index}
use Rattle.lp_tableaus.proofs.first.numbers_below.Given as goal

abbrev pub invariant-loop-number : goal.invariant-loop-number
invariant-loop-number l = record {
  length : length l.numbers.items ≡ l.number;
  value : (k : ℕ) → k < l.number → slice_index l.numbers.items k ≡ k;
}
