use Rattle.tree_ranking.specs.Children.{AreChildrenTo}
use Rattle.tree_ranking.proofs.children.add_children.Given as goal

abbrev pub invariant-loop-len : goal.invariant-loop-len
invariant-loop-len g l = AreChildrenTo l.grammar (g.P.LetterPrice.view l.prices) l.frame l.name l.base l.number l.len l.children.items
