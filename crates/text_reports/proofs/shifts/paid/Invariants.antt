use Rattle.std.proofs.Common.{ℕ, ◌≡◌, ◌≤◌, ◌+◌, ◌*◌, ◌^◌}
use Rattle.model_rosters.specs.Folds.{sum_n}
use Rattle.check_certificates.specs.RosterCauses.{stated_prices}
use Rattle.check_certificates.proofs.StatedPrices.{rest_paid}
use Rattle.text_reports.proofs.shifts.paid.Given as goal

abbrev pub invariant-loop-shift : goal.invariant-loop-shift
invariant-loop-shift l = record {
  value : sum_n (λ (p : ℕ). p) (stated_prices l.shifts) ≡ l.sum + rest_paid l.shifts l.shift-index;
  within : l.sum ≤ 2 ^ 40 * l.shift-index;
}
