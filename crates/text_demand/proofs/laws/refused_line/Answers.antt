use Rattle.text_demand.proofs.FormsLemmas.{refused_line as law}
use Rattle.text_demand.proofs.laws.refused_line.Goals as goal

pub returns : goal.returns
returns c = law
