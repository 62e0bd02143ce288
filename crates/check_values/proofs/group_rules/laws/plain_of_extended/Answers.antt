use Rattle.check_values.proofs.group_rules.PlainGrammars.{plain_extended}
use Rattle.check_values.proofs.group_rules.laws.plain_of_extended.Goals as goal

pub returns : goal.returns
returns c = plain_extended
