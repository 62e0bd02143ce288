use Rattle.std.proofs.Common.{refl}
use Rattle.law_bounds.proofs.near_laws.laws.worked_completed.Goals as goal

pub returns : goal.returns
returns c = record { met = refl; met_cost = refl; short = refl; short_cost = refl; more = refl; more_cost = refl }
