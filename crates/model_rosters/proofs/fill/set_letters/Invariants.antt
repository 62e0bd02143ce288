use Rattle.std.proofs.Common.{◌*◌, ◌^◌, drop, All}
use Rattle.model_rosters.specs.Reduced.{cell_prices}
use Rattle.model_rosters.specs.Sums.{Within}
use Rattle.model_rosters.proofs.LetterNumbers.{IsPaid}
use Rattle.model_rosters.proofs.fill.set_letters.Given as goal

abbrev pub invariant-loop-place : goal.invariant-loop-place
invariant-loop-place l = record {
  value : IsPaid l.periods (cell_prices (drop l.place l.cells) (drop l.place l.prices)) (cell_prices l.cells l.prices) l.numbers;
  within : All (Within (2 ^ 80 * l.place)) l.numbers;
}
