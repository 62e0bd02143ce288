use Rattle.law_bounds.proofs.Shares.{heads-within, cells-within, least-within, cuts-within}
use Rattle.law_bounds.proofs.laws.small_shares.Goals as goal

pub returns : goal.returns
returns c = record { heads = heads-within; cells = cells-within; least = least-within; cuts = cuts-within }
