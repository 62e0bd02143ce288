use Rattle.std.proofs.Common.{◌≡◌, length, ◌*◌, ◌+ℤ◌}
use Rattle.std.proofs.Common.{◌≡◌, ◌^◌, ◌*◌, length, drop}
use Rattle.std.specs.Prelude.{◌+ℤ◌}
use Rattle.model_rosters.specs.Sums.{Within}
use Rattle.lp_fractions.specs.pivot_rows.Columns.{AreWithin, AreUnits}
use Rattle.search_node_columns.specs.Priced.{places_worth}
use Rattle.search_node_columns.proofs.listed.reduced_cost.Given as goal

abbrev pub invariant-loop-place : goal.invariant-loop-place
invariant-loop-place l = record {
  value : places_worth l.y l.held.places ≡ l.worth +ℤ places_worth l.y (drop l.place-index l.held.places);
  within : AreWithin (length l.y) (drop l.place-index l.held.places);
  units : AreUnits (drop l.place-index l.held.places);
  size : Within (2 ^ 56 * l.place-index) l.worth;
}
