use Rattle.law_bounds.proofs.PlainRosters.{roster-plain, plain-roster}
use Rattle.law_bounds.proofs.laws.plain_rosters.Goals as goal

pub returns : goal.returns
returns c = λ i ds ps sound day. (λ r. roster-plain i ds ps day r, λ r. plain-roster i ds ps sound day r)
