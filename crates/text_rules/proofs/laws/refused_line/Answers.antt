use Rattle.text_rules.proofs.Readings.{refused_line as law}
use Rattle.text_rules.proofs.laws.refused_line.Goals as goal

pub returns : goal.returns
returns c = law
