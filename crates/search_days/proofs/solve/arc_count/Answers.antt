use Rattle.search_days.proofs.ArcCounts.{graph-count}
use Rattle.search_days.proofs.solve.arc_count.Goals as goal

pub returns : goal.returns
returns c g is = rw c.arcs.ensures.arcs (graph-count g c.args.graph.now is)
