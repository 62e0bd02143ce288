use Rattle.law_bounds.proofs.master_laws.WideNumbers.{wide_rounding}
use Rattle.law_bounds.proofs.master_laws.laws.wide_rounding.Goals as goal

pub returns : goal.returns
returns c = wide_rounding
