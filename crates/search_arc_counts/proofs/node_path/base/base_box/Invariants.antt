use Rattle.std.proofs.Common.{take}
use Rattle.search_arc_counts.specs.count_boxes.Paths.{IsBoxOf}
use Rattle.search_arc_counts.proofs.node_path.base.base_box.Given as goal

abbrev pub invariant-loop-cut : goal.invariant-loop-cut
invariant-loop-cut l = IsBoxOf l.day.instance.now l.day.graph.now (take l.cut-index l.cuts) l.arc_box
