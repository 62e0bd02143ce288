use Rattle.plan_meaning.proofs.FirstTimes.{first_time as law}
use Rattle.plan_meaning.proofs.laws.times_are_first.Goals as goal

pub returns : goal.returns
returns c = law
