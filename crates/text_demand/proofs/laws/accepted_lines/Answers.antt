use Rattle.text_demand.proofs.FormsLemmas.{accepted_lines as law}
use Rattle.text_demand.proofs.laws.accepted_lines.Goals as goal

pub returns : goal.returns
returns c = law
