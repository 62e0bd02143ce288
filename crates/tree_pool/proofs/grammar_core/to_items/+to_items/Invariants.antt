use Rattle.std.proofs.Common.{length}
use Rattle.tree_pool.specs.grammar_core.Walks.{tree_measure, steps_measure}
use Rattle.tree_pool.proofs.grammar_core.to_items.+to_items.Given as goal

abbrev pub decreases-add_tree : goal.decreases-add_tree
decreases-add_tree l = tree_measure (length l.steps.now)

abbrev pub decreases-add_parts : goal.decreases-add_parts
decreases-add_parts l = steps_measure (length l.steps.now) l.suffix.from
