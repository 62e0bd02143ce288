use Rattle.model_rosters.proofs.arc_laws.PathBounds.{bounds-hold, bounds-keep}
use Rattle.model_rosters.proofs.arc_laws.laws.path_bounds.Goals as goal

pub returns : goal.returns
returns c = λ most n cuts a l. (λ h. bounds-keep most n cuts a h, λ h. bounds-hold most n cuts a l h)
