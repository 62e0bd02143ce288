use Rattle.tree_pool.specs.grammar_core.Adding.{ItemsOfFirst}
use Rattle.tree_pool.proofs.grammar_core.items.items_of.Given as goal

abbrev pub invariant-loop-index : goal.invariant-loop-index
invariant-loop-index l = ItemsOfFirst l.grammar l.index l.items
