use Rattle.law_bounds.proofs.Counted.{makes-roster}
use Rattle.law_bounds.proofs.laws.counts_make_rosters.Goals as goal

pub returns : goal.returns
returns c = λ i listed value ts sound once are have. makes-roster i listed value ts sound once are have
