use Rattle.check_values.proofs.group_rules.PlainGrammars.{plain_extended}
use Rattle.page_command.proofs.laws.groups_derive_by_the_rules.Goals as goal

pub returns : goal.returns
returns c = plain_extended
