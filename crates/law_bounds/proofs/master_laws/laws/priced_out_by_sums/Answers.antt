use Rattle.law_bounds.proofs.master_laws.Pricing.{out_by_sums}
use Rattle.law_bounds.proofs.master_laws.laws.priced_out_by_sums.Goals as goal

pub returns : goal.returns
returns c = out_by_sums
