use Rattle.tree_questions.proofs.Misses.{no-misses}
use Rattle.tree_questions.proofs.LongestTexts.{ok-longest, ok-no_shift}
use Rattle.tree_questions.proofs.longest.longest_answer.Goals as goal

pub returns-in-Some : goal.returns-in-Some
returns-in-Some c = ok-longest c.args.grammar.now c.args.prefix.now c.longest_of.result c.longest_line.result c.longest_of.ensures c.longest_line.ensures

pub returns-in-None : goal.returns-in-None
returns-in-None c =
    ok-no_shift c.args.grammar.now c.args.prefix.now c.no_shift.result
    (no-misses c.args.grammar.now c.requires c.args.prefix.now (rw (c.in-None.is, c.new-prices.ensures.grammar, c.new-prices.ensures.prefix) at c.in_ok-sum.ensures)) c.no_shift.ensures
