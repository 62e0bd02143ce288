use Rattle.std.proofs.Common.{ℕ, ◌<◌, slice_index}
use Rattle.model_shift_figures.specs.roster_changes.Stages.{IsRowPriced}
use Rattle.model_shift_figures.proofs.roster_changes.prices.are_prices.Given as goal

abbrev pub invariant-loop-at : goal.invariant-loop-at
invariant-loop-at l = (at : ℕ) → at < l.at → IsRowPriced l.periods l.old l.new l.fixed (slice_index l.prices.rows.items) (slice_index l.prices.places.items) at
