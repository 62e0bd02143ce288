use Rattle.std.proofs.Common.{ℕ, Option, ◌≡◌, ◌≤◌, ◌+◌, ◌*◌, drop}
use Rattle.std.specs.Prelude.{unwrap_or}
use Rattle.model_rosters.specs.Folds.{sum_n}
use Rattle.check_values.proofs.remaining_day.keep.paid.Given as goal

abbrev pub invariant-loop-price : goal.invariant-loop-price
invariant-loop-price l = record {
  value : sum_n (λ (f : Option ℕ). unwrap_or f 0) l.found ≡ l.sum + sum_n (λ (f : Option ℕ). unwrap_or f 0) (drop l.price-index l.found);
  within : l.sum ≤ 63030000 * l.price-index;
}
