use Rattle.std.proofs.Common.{◌≡◌, ◌^◌, ◌*◌, ◌≤◌, drop, take}
use Rattle.std.specs.Prelude.{◌+ℤ◌}
use Rattle.model_rosters.specs.Folds.{sum_z}
use Rattle.model_rosters.specs.PriceLimits.{AreRising, nonzero}
use Rattle.model_rosters.specs.Reduced.{cut_prices}
use Rattle.model_rosters.specs.Sums.{Within}
use Rattle.law_bounds.specs.Lagrangian.{cut_share}
use Rattle.check_parts.proofs.priced_part.CutSums.{mults_sum}
use Rattle.check_parts.proofs.priced_part.shares.cuts_share.Given as goal

abbrev pub invariant-loop-m : goal.invariant-loop-m
invariant-loop-m l = record {
  value : sum_z cut_share (cut_prices 1 l.cuts l.mult) ≡ l.sum +ℤ mults_sum l.cuts l.mult l.m-index;
  within : Within (2 ^ 87 * nonzero (take l.m-index l.mult)) l.sum;
  few : nonzero (take l.m-index l.mult) ≤ 1500;
  rising : AreRising (drop l.m-index l.mult);
}
