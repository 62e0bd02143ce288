use Rattle.std.proofs.Common.{◌≡◌, ◌≤◌, length, take}
use Rattle.std.specs.List.{flat_map}
use Rattle.page_views.specs.Rows.{rows_at}
use Rattle.page_views.proofs.rows.rows_in.Given as goal

abbrev pub invariant-loop-place : goal.invariant-loop-place
invariant-loop-place l = record {
  rows : l.rows ≡ flat_map (rows_at l.instance l.labels l.comparison l.shifts) (take l.place-index l.places);
  few : length l.rows ≤ l.place-index;
}
