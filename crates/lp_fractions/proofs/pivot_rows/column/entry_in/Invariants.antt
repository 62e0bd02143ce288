use Rattle.std.proofs.Common.{◌≡◌, ◌≤◌, ◌*◌, ◌^◌, ◌+ℤ◌, drop, unsigned_abs}
use Rattle.lp_fractions.specs.Row.{at}
use Rattle.lp_fractions.proofs.pivot_rows.Entries.{places_sum}
use Rattle.lp_fractions.proofs.pivot_rows.column.entry_in.Given as goal

abbrev pub invariant-loop-place : goal.invariant-loop-place
invariant-loop-place l = record {
  value : l.sum +ℤ places_sum (at l.row) (drop l.place-index l.column) ≡ places_sum (at l.row) l.column;
  size : unsigned_abs l.sum ≤ l.place-index * 2 ^ 56;
}
