use Rattle.std.proofs.Common.{◌≡◌, ◌≤◌, ◌*◌, take}
use Rattle.model_rosters.specs.Folds.{sum_n}
use Rattle.model_rosters.specs.arc_laws.Counts.{top_cost}
use Rattle.check_parts.specs.pinned_part.Net.{IsNet}
use Rattle.search_arc_counts.specs.count_boxes.Costs.{low_of}
use Rattle.search_arc_counts.proofs.count_boxes.cost.count_arcs.Given as goal

abbrev pub invariant-loop-place : goal.invariant-loop-place
invariant-loop-place l = record {
  net : IsNet l.grammar (take l.place l.arcs) (low_of l.arcs l.bounds) l.nodes;
  paid : l.cost ≡ sum_n (λ a. low_of l.arcs l.bounds a * top_cost l.grammar a) (take l.place l.arcs);
  within : l.cost ≤ 640000 * l.place;
}
