use Rattle.std.proofs.Common.{length}
use Rattle.tree_pool.specs.grammar_core.Walks.{tree_measure, arcs_measure}
use Rattle.tree_pool.proofs.grammar_core.to_tree.+to_tree.Given as goal

abbrev pub decreases-add_tree : goal.decreases-add_tree
decreases-add_tree l = tree_measure (length l.arcs.now)

abbrev pub decreases-add_parts : goal.decreases-add_parts
decreases-add_parts l = arcs_measure (length l.arcs.now) l.suffix.from
