use Rattle.model_rosters.proofs.arc_laws.Totals.{arc_once}
use Rattle.model_rosters.proofs.arc_laws.laws.arc_once.Goals as goal

pub returns : goal.returns
returns c = λ g t a sound day. arc_once g sound t a day
