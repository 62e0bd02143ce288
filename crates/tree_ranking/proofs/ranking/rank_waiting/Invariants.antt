use Rattle.std.proofs.Common.{◌-◌, [], length}
use Rattle.tree_ranking.specs.Progresses.{IsProgress}
use Rattle.tree_ranking.proofs.ranking.rank_waiting.Given as goal

abbrev pub invariant-loop-current : goal.invariant-loop-current
invariant-loop-current g l = IsProgress l.grammar (g.P.LetterPrice.view l.prices) l.most l.given l.waiting.items []

abbrev pub decreases-loop-current : goal.decreases-loop-current
decreases-loop-current g l = l.most - length l.given
