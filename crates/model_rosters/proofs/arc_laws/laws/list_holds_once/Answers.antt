use Rattle.model_rosters.proofs.arc_laws.Totals.{arcs-once}
use Rattle.model_rosters.proofs.arc_laws.laws.list_holds_once.Goals as goal

pub returns : goal.returns
returns c = λ g listed are. arcs-once g listed are
