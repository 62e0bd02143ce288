use Rattle.text_relaxed_days.proofs.SaidTexts.{rules-said}
use Rattle.text_relaxed_days.proofs.text.write_free_rules.Goals as goal

pub returns : goal.returns
returns c = rules-said c.written_again.ensures c.args.grammar c.in_ok-free.free c.write_rules.result c.requires.sound c.requires.plain c.in_ok-free.ensures.is c.write_rules.ensures
