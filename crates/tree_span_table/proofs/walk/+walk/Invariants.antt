use Rattle.tree_span_table.specs.Walks.{tree_measure, parts_measure}
use Rattle.tree_span_table.proofs.walk.+walk.Given as goal

abbrev pub decreases-write_tree : goal.decreases-write_tree
decreases-write_tree g l = tree_measure l.layout.now l.symbol l.span.len

abbrev pub decreases-write_parts : goal.decreases-write_parts
decreases-write_parts g l = parts_measure l.layout.now l.rule.now.left l.suffix.from l.span.len
