use Rattle.std.proofs.Common.{arith}
use Rattle.std.proofs.lemmas.Bool.{leb-true, le-leb}
use Rattle.lp_near_prices.specs.Shares.{unit}
use Rattle.lp_near_prices.proofs.Ratios.{at_most-up, at_most-down}
use Rattle.lp_near_prices.proofs.within.is_at_most.Goals as goal

pub returns : goal.returns
returns c =
    rw (c.from-unit.ensures, c.from.ensures, c.from-2.ensures) (
      λ h. at_most-up unit c.args.cost c.args.d c.args.value (omega arith) (leb-true _ _ h),
      λ h. le-leb _ _ (at_most-down unit c.args.cost c.args.d c.args.value (omega arith) h),
    )
