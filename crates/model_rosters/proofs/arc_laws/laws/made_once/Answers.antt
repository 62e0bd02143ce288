use Rattle.model_rosters.proofs.arc_laws.Totals.{node_once}
use Rattle.model_rosters.proofs.arc_laws.laws.made_once.Goals as goal

pub returns : goal.returns
returns c = λ g t o sound day. node_once g sound t o day
