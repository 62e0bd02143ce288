-- The prices of a fill are small.
use Rattle.std.proofs.Common.{ℕ, ◌+◌, ◌*◌, ◌^◌, arith}
use Rattle.std.proofs.lemmas.Int.{ints}
use Rattle.model_rosters.specs.Sums.{AllWithin, Within}
use Rattle.bench_runs.specs.Prices.{price_of, fill_view}

price_small : (fill number : ℕ) → Within (2 ^ 96) (price_of fill number)
price_small fill number = record { low = omega (arith, ints); high = omega (arith, ints) }

pub view-small : (fill : ℕ) → AllWithin (2 ^ 96) (fill_view fill)
view-small fill = record {
  letters = λ c i. price_small fill (c * 31 + i * 17);
  arcs = λ a. record { low = omega (arith, ints); high = omega (arith, ints) };
  rules = λ r. price_small fill (r * 13);
}
