use Rattle.std.proofs.Common.{[], ◌∷◌}
use Rattle.tree_ranking.specs.Progresses.{IsProgress, steps_left}
use Rattle.tree_ranking.proofs.branch.descend.Given as goal

abbrev pub invariant-loop-frame : goal.invariant-loop-frame
invariant-loop-frame g l = IsProgress l.grammar (g.P.LetterPrice.view l.prices) l.most l.given (l.current ∷ l.waiting.items) []

abbrev pub decreases-loop-frame : goal.decreases-loop-frame
decreases-loop-frame g l = steps_left l.grammar l.current
