use Rattle.std.proofs.Common.{◌≡◌, length}
use Rattle.rows_graphs.proofs.boxes.pin_all.Given as goal

abbrev pub invariant-loop-arc : goal.invariant-loop-arc
invariant-loop-arc l = record {
  arcs : length l.arc_box.bounds ≡ length l.graph.arcs;
  places : l.arc_box.places ≡ l.fn.arc_box.places;
}
