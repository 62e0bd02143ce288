use Rattle.std.proofs.Common.{ℕ, ◌<◌, pos, ◌≤ℤ◌, slice_get}
use Rattle.law_bounds.specs.linear_programs.Program.{reduced}
use Rattle.lp_fractions.specs.Row.{at}
use Rattle.rows_tableaus.specs.Tables.{column_of}
use Rattle.rows_tableaus.proofs.reduced.find_cheaper.Given as goal

-- the columns so far have no negative reduced cost
abbrev pub invariant-loop-place : goal.invariant-loop-place
invariant-loop-place l =
    (k : ℕ) → k < l.place → pos 0 ≤ℤ reduced 3 (at l.y) l.kappa (column_of (slice_get l.columns k))
