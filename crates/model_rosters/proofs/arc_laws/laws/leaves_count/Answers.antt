use Rattle.std.proofs.Common.{refl}
use Rattle.model_rosters.specs.Cuts.{arc_count}
use Rattle.model_rosters.proofs.arc_laws.Totals.{leaves-count}
use Rattle.model_rosters.proofs.arc_laws.laws.leaves_count.Goals as goal

pub returns : goal.returns
returns c = λ g ts listed l day are. leaves-count g ts listed (λ a. arc_count a ts) day are (λ a h. refl) l
