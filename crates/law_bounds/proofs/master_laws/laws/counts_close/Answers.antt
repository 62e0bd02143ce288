use Rattle.law_bounds.proofs.master_laws.BestPrices.{counts_close}
use Rattle.law_bounds.proofs.master_laws.laws.counts_close.Goals as goal

pub returns : goal.returns
returns c = counts_close
