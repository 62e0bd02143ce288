use Rattle.std.proofs.Common.{◌≤◌, length, vec_len, vec_capacity}
use Rattle.lp_fractions.specs.pivot_rows.Places.{AreListed}
use Rattle.lp_fractions.proofs.pivot_rows.row.list_places.Given as goal

abbrev pub invariant-loop-place : goal.invariant-loop-place
invariant-loop-place l = record {
  listed : AreListed l.numbers l.place l.places.items;
  room : length l.numbers ≤ vec_capacity l.places;
  count : vec_len l.places ≤ l.place;
}
