use Rattle.std.proofs.Common.{refl}
use Rattle.model_rosters.specs.Cuts.{arc_count}
use Rattle.model_rosters.proofs.arc_laws.Totals.{arcs-pay}
use Rattle.model_rosters.proofs.arc_laws.laws.arcs_pay.Goals as goal

pub returns : goal.returns
returns c = λ g ts listed day are. arcs-pay g ts listed (λ a. arc_count a ts) day are (λ a h. refl)
