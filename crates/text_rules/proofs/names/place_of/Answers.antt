use Rattle.text_rules.proofs.KeyTexts.{found_key}
use Rattle.text_rules.proofs.names.place_of.Goals as goal

pub returns-clause-place : goal.returns-clause-place
returns-clause-place c = found_key c.get_index_of.result c.args.name.now c.args.names.now.keys c.get_index_of.ensures.index c.get_index_of.ensures.found
