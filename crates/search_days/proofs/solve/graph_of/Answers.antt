use Rattle.std.proofs.Common.{length}
use Rattle.search_days.proofs.ArcCounts.{graph-count}
use Rattle.search_days.proofs.solve.graph_of.Goals as goal

pub returns-clause-few : goal.returns-clause-few
returns-clause-few c = (length c.in_ok-graph.graph.arcs, graph-count c.args.grammar.now c.in_ok-graph.graph c.in_ok-graph.ensures.graph)
