use Rattle.std.proofs.Common.{List}
use Rattle.model_rosters.specs.declared.instance.Cut.{Cut}
use Rattle.model_rosters.specs.declared.instance.Instance.{Instance}
use Rattle.tree_graph.specs.Graphs.{GraphView}
use Rattle.search_arc_counts.specs.node_path.Steps.{HasTurned}
use Rattle.search_arc_counts.proofs.node_path.turns.go_back.Given as goal

abbrev pub invariant-loop-turn : goal.invariant-loop-turn
invariant-loop-turn l =
    (i : Instance) (v : GraphView) (above cuts : List Cut) → HasTurned i v above l.fn.turns.items cuts l.fn.arc_box
    → (left : List Cut) × HasTurned i v above l.turns.items left l.arc_box

abbrev pub decreases-loop-turn : goal.decreases-loop-turn
decreases-loop-turn l = goal.left-loop-turn l
