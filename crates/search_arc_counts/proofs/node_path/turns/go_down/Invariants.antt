use Rattle.std.proofs.Common.{List, ◌++◌, take}
use Rattle.model_rosters.specs.declared.instance.Cut.{Cut}
use Rattle.model_rosters.specs.declared.instance.Instance.{Instance}
use Rattle.search_arc_counts.specs.count_boxes.Paths.{IsBoxOf}
use Rattle.search_arc_counts.specs.node_path.Paths.{AreTurns}
use Rattle.search_arc_counts.specs.node_path.Steps.{CanGoDown}
use Rattle.search_arc_counts.proofs.node_path.turns.go_down.Given as goal

abbrev pub invariant-loop-cut : goal.invariant-loop-cut
invariant-loop-cut l =
    ((i : Instance) (above : List Cut) → CanGoDown i l.fn.graph above l.fn.cuts l.fn.arc_box → IsBoxOf i l.graph (above ++ take l.cut-index l.cuts) l.arc_box)
    × ((i : Instance) (above : List Cut) → CanGoDown i l.fn.graph above l.fn.cuts l.fn.arc_box → AreTurns i l.fn.graph above l.fn.turns.items above
    → AreTurns i l.graph above l.turns.items (above ++ take l.cut-index l.cuts))
