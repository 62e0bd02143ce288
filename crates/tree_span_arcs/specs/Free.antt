-- Free prices are small.
use Rattle.std.proofs.Common.{◌^◌, arith}
use Rattle.std.proofs.lemmas.Int.{ints}
use Rattle.model_rosters.specs.Sums.{AllWithin}
use Rattle.tree_span_arcs.specs.Marks.{free_view}

pub free-within : AllWithin (2 ^ 96) free_view
free-within = record {
  letters = λ c i. record { low = omega (arith, ints); high = omega (arith, ints) };
  arcs = λ a. record { low = omega (arith, ints); high = omega (arith, ints) };
  rules = λ r. record { low = omega (arith, ints); high = omega (arith, ints) };
}
