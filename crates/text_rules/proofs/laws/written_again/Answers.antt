use Rattle.text_rules.proofs.GrammarAgain.{grammar_again}
use Rattle.text_rules.proofs.laws.written_again.Goals as goal

pub returns : goal.returns
returns c = grammar_again
