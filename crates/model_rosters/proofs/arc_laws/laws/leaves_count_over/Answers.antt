use Rattle.std.proofs.Common.{refl}
use Rattle.model_rosters.specs.Cuts.{arc_count}
use Rattle.model_rosters.proofs.arc_laws.Totals.{listed-leaves}
use Rattle.model_rosters.proofs.arc_laws.laws.leaves_count_over.Goals as goal

pub returns : goal.returns
returns c = λ g ts listed l day are. listed-leaves g ts listed (λ a. arc_count a ts) day are (λ a h. refl) l
