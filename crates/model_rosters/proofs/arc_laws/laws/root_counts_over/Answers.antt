use Rattle.std.proofs.Common.{refl}
use Rattle.model_rosters.specs.Cuts.{arc_count}
use Rattle.model_rosters.proofs.arc_laws.Totals.{listed-roots}
use Rattle.model_rosters.proofs.arc_laws.laws.root_counts_over.Goals as goal

pub returns : goal.returns
returns c = λ g ts listed sound day are. listed-roots g ts listed (λ a. arc_count a ts) day are (λ a h. refl) sound
