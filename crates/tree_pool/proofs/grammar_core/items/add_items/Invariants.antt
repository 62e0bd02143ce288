use Rattle.tree_pool.specs.grammar_core.Adding.{AddsItems}
use Rattle.tree_pool.proofs.grammar_core.items.add_items.Given as goal

abbrev pub invariant-loop-suffix : goal.invariant-loop-suffix
invariant-loop-suffix l = AddsItems l.number l.right l.suffix l.initial.items l.items
