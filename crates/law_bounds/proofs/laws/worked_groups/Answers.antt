use Rattle.std.proofs.Common.{refl}
use Rattle.law_bounds.proofs.laws.worked_groups.Goals as goal

pub returns : goal.returns
returns c = record { two_teams = refl; three_cuts = refl; least = refl; most = refl; full_cost = refl; half_cost = refl; bare_cost = refl; value = refl; shown = refl; bare_value = refl }
