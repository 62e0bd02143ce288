use Rattle.text_rules.proofs.OneReading.{one_reading as one}
use Rattle.text_rules.proofs.laws.one_reading.Goals as goal

pub returns : goal.returns
returns c = one
