use Rattle.page_labels.proofs.RefusedLines.{refused_line as law}
use Rattle.page_labels.proofs.laws.refused_line.Goals as goal

pub returns : goal.returns
returns c = law
