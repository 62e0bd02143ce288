use Rattle.text_rules.proofs.Readings.{accepted_lines as law}
use Rattle.text_rules.proofs.laws.accepted_lines.Goals as goal

pub returns : goal.returns
returns c = law
