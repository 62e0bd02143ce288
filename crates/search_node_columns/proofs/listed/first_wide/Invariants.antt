use Rattle.std.proofs.Common.{ℕ, ℤ, ◌<◌, ◌≤◌, ◌^◌, slice_index_or, unsigned_abs}
use Rattle.search_node_columns.proofs.listed.first_wide.Given as goal

abbrev pub invariant-loop-price : goal.invariant-loop-price
invariant-loop-price l = (k : ℕ) (d : ℤ) → k < l.price-index → unsigned_abs (slice_index_or l.y k d) ≤ 2 ^ 56
