use Rattle.std.proofs.Common.{arith}
use Rattle.std.proofs.lemmas.Option.{slice_get_within}
use Rattle.search_arc_counts.proofs.count_boxes.PathsLemmas.{cuts-elsewhere}
use Rattle.search_arc_counts.proofs.node_path.TurnsLemmas.{arc-listed}
use Rattle.search_arc_counts.proofs.node_path.turns.narrow.Goals as goal

pub returns-in_err-arc-clause-left : goal.returns-in_err-arc-clause-left
returns-in_err-arc-clause-left c i above h =
    cuts-elsewhere i c.args.graph.now above c.args.cut.now c.args.arc_box.now h.graph (arc-listed i c.args.graph.now c.args.cut.now.arc h.graph c.in_err-arc.ensures.none) h.left

pub cut-low-requires-clause-arc : goal.cut-low-requires-clause-arc
cut-low-requires-clause-arc c =
    let h = c.requires.2 in
    omega (arith, slice_get_within c.args.graph.now.arcs c.in_ok-arc.arc c.args.cut.now.arc c.in_ok-arc.ensures.found, h.left.made.arcs)

pub returns-clause-left : goal.returns-clause-left
returns-clause-left c i above h = c.cut-low.ensures.path i c.args.graph.now above c.args.cut.now.arc h.graph c.in_ok-arc.ensures.found h.left
