use Rattle.std.proofs.Common.{arith}
use Rattle.tree_questions.proofs.Powers.{within-kept}
use Rattle.tree_questions.proofs.miss_prices.MissPricesLetterPrice.letter.Goals as goal

pub returns-clause-within : goal.returns-clause-within
returns-clause-within c =
    within-kept c.byte_at-wanted.result c.in_ok-code.code.now.byte c.saturating_sub-left.result c.miss.result
    (omega (arith, c.saturating_sub-left.ensures, c.args.self.now.small)) c.miss.ensures
