use Rattle.check_values.proofs.stated_rosters.RefusedLines.{refused_line as law}
use Rattle.check_values.proofs.stated_rosters.laws.refused_line.Goals as goal

pub returns : goal.returns
returns c = law
