use Rattle.std.proofs.Common.{ℕ, ◌≡◌, ◌≤◌, ◌+◌, ◌*◌, ◌^◌, All, drop, length}
use Rattle.lp_near_prices.specs.Sums.{added}
use Rattle.lp_fractions.specs.pivot_rows.Columns.{AreWithin}
use Rattle.lp_near_prices.proofs.sums.add_weight.Given as goal

abbrev pub invariant-loop-place : goal.invariant-loop-place
invariant-loop-place l = record {
  value : added l.weight l.sums (drop l.place-index l.places) ≡ added l.weight l.initial.sums l.places;
  count : length l.sums ≡ length l.initial.sums;
  within : AreWithin (length l.initial.sums) (drop l.place-index l.places);
  small : All (λ (s : ℕ). s ≤ 2 ^ 100 + l.place-index * 2 ^ 62) l.sums;
}
