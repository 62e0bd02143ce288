use Rattle.tree_ranking.specs.Children.{AreChildrenTo}
use Rattle.tree_ranking.proofs.children.children_of.Given as goal

abbrev pub invariant-loop-number : goal.invariant-loop-number
invariant-loop-number g l = AreChildrenTo l.grammar (g.P.LetterPrice.view l.prices) l.frame l.name l.base l.number 1 l.children.items
