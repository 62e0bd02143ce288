use Rattle.std.proofs.Common.{ℕ, ◌<◌, slice_index}
use Rattle.model_shift_figures.specs.roster_changes.Stages.{IsPriced}
use Rattle.model_shift_figures.proofs.roster_changes.prices.is_row_priced.Given as goal

abbrev pub invariant-loop-place : goal.invariant-loop-place
invariant-loop-place l = (place : ℕ) → place < l.place → IsPriced l.periods l.old l.new l.fixed (slice_index l.prices.rows.items) (slice_index l.prices.places.items) l.at place
