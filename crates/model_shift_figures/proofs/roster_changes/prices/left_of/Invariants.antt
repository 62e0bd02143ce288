use Rattle.std.proofs.Common.{◌≡◌, ◌+◌, slice_index}
use Rattle.model_shift_figures.specs.roster_changes.Totals.{total}
use Rattle.model_shift_figures.proofs.roster_changes.prices.left_of.Given as goal

abbrev pub invariant-loop-place : goal.invariant-loop-place
invariant-loop-place l = total l.place (slice_index l.prices) + l.left ≡ l.amount
