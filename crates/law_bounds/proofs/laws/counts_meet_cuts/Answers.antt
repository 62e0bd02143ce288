use Rattle.law_bounds.proofs.Counted.{meets-cuts}
use Rattle.law_bounds.proofs.laws.counts_meet_cuts.Goals as goal

pub returns : goal.returns
returns c = λ i cuts listed value ts once have left asks. meets-cuts i cuts listed value ts once have left asks
