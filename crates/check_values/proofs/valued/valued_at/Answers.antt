use Rattle.check_certificates.proofs.StatedPrices.{small_prices}
use Rattle.check_values.proofs.valued.valued_at.Goals as goal

pub paid-paid-requires-clause-small : goal.paid-paid-requires-clause-small
paid-paid-requires-clause-small c = rw c.as_slice-2.ensures (small_prices c.args.instance.now c.args.shifts c.requires.shifts.each)
